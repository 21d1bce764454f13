-- Names are read where each part between dots is a number.
use Rattle.std.proofs.Common.{◌≡◌, ℕ, zero, suc, ap, sym, ◌<◌, ◌==◌, List, [], ◌∷◌, ◌++◌, length, get_or, take, map, false, subst, ◌≤◌, ◌+◌, ◌^◌, codes, None, arith}
use Rattle.std.specs.Fmt.{decimal}
use Rattle.std.specs.List.{AllZip}
use Rattle.std.specs.Str.{bytes_eq}
use Rattle.std.proofs.lemmas.List.{take_more, take_all}
use Rattle.std.specs.Borrow.{Bor}
use Rattle.std.proofs.lemmas.List.Splits.{length-slice_split}
use Rattle.hir_def.specs.declared.Name.{Name}
use Rattle.world_commands.specs.Words.{ReadAs, IsNumber, parts_of}
use Rattle.world_commands.specs.Commands.{IsNames}

one_more : {A B : Type 0} (R : A → B → Type 0) (xs : List A) (ys : List B) (x : A) (y : B) → AllZip R xs ys → R x y → AllZip R (xs ++ x ∷ []) (ys ++ y ∷ [])
one_more R [] [] x y h k = (k, tt)
one_more R (a ∷ xs) (b ∷ ys) x y h k = (h.0, one_more R xs ys x y h.1 k)
one_more R [] (b ∷ ys) x y h k = absurd h
one_more R (a ∷ xs) [] x y h k = absurd h

by_text : (ns : List Name) (ps : List (Bor (List ℕ))) → AllZip (λ n part. IsNumber n.0 part.now) ns ps → AllZip (λ n part. IsNumber n.0 part) ns (map (λ p. p.now) ps)
by_text [] [] h = tt
by_text (n ∷ ns) (p ∷ ps) h = (h.0, by_text ns ps h.1)
by_text [] (p ∷ ps) h = absurd h
by_text (n ∷ ns) [] h = absurd h

at_one : (ns : List Name) (ps : List (Bor (List ℕ))) (i : ℕ) (d : Bor (List ℕ)) → AllZip (λ n part. IsNumber n.0 part) ns (map (λ p. p.now) ps) → i < length ps → ((n : ℕ) → n < 2 ^ 32 → ¬ ((get_or ps i d).now ≡ decimal n)) → ⊥
at_one (n ∷ ns) (p ∷ ps) zero d h l k = k n.0 h.0.0 h.0.1
at_one (n ∷ ns) (p ∷ ps) (suc i) d h l k = at_one ns ps i d h.1 (omega arith) k
at_one [] [] i d h l k = omega arith
at_one [] (p ∷ ps) i d h l k = h
at_one (n ∷ ns) [] i d h l k = h

no_dash : (w : List ℕ) → bytes_eq w (codes "-") ≡ false → ¬ (w ≡ codes "-")
no_dash w n e = let b : bytes_eq (codes "-") (codes "-") ≡ false = subst (λ t. bytes_eq t (codes "-") ≡ false) e n in cc

pub no_number : (w : List ℕ) (ps : List (Bor (List ℕ))) (i : ℕ) (d : Bor (List ℕ)) → bytes_eq w (codes "-") ≡ false → map (λ p. p.now) ps ≡ parts_of 46 w → i < length ps → ((n : ℕ) → n < 2 ^ 32 → ¬ ((get_or ps i d).now ≡ decimal n)) → ReadAs IsNames w None
unfolding IsNames
no_number w ps i d h e l k [] s = no_dash w h s
no_number w ps i d h e l k (n ∷ ns) s = at_one (n ∷ ns) ps i d (rw e s) l k

pub read_more : (ns ms : List Name) (ps : List (Bor (List ℕ))) (i n : ℕ) (d : Bor (List ℕ)) → AllZip (λ m part. IsNumber m.0 part.now) ns (take i ps) → i < length ps → (n < 2 ^ 32) × ((get_or ps i d).now ≡ decimal n) → ms ≡ ns ++ record { 0 = n } ∷ [] → AllZip (λ m part. IsNumber m.0 part.now) ms (take (i + 1) ps)
read_more ns ms ps i n d h l k e = rw (e, take_more ps i d l) (one_more (λ m part. IsNumber m.0 part.now) ns (take i ps) (record { 0 = n }) (get_or ps i d) h k)

all_parts : (w : List ℕ) (ns : List Name) (ps : List (Bor (List ℕ))) → map (λ p. p.now) ps ≡ parts_of 46 w → AllZip (λ n part. IsNumber n.0 part.now) ns ps → IsNames ns w
unfolding IsNames
all_parts w [] [] e h = let l = length-slice_split (λ b. b == 46) w in let z : length (parts_of 46 w) ≡ 0 = ap length (sym e) in absurd (omega (arith, l, z))
all_parts w [] (p ∷ ps) e h = absurd h
all_parts w (n ∷ ns) ps e h = rw (← e) (by_text (n ∷ ns) ps h)

pub all_read : (w : List ℕ) (ns : List Name) (ps : List (Bor (List ℕ))) (i : ℕ) → map (λ p. p.now) ps ≡ parts_of 46 w → length ps ≤ i → AllZip (λ n part. IsNumber n.0 part.now) ns (take i ps) → IsNames ns w
all_read w ns ps i e l h = all_parts w ns ps e (rw take_all at h)
