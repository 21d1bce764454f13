-- The first segment of a text, and those after it.
use Rattle.std.proofs.Common.{◌≡◌, ℕ, zero, suc, ◌+◌, ◌<◌, ◌≤◌, true, false, cond, ◌&&◌, eqb, List, [], ◌∷◌, ◌++◌, length, take, drop, get_or, sym, refl, ap, ◌∙◌, arith, add-zero, MatchOption, Option, Some, None, is_some, inl, inr}
use Rattle.std.proofs.lemmas.Bool.{cases_Bool, and_parts, eqb-true}
use Rattle.std.specs.Borrow.{Bor}
use Rattle.path_text.specs.Bytes.{inner}
use Rattle.path_text.specs.Grammar.{Inners}
use Rattle.path_text.specs.Words.{NoInner}
use Rattle.path_text.specs.Segments.{Piece, piece, next_at, grown, segments, segments_from}

-- the segments after a word, by the text after it
abbrev pub more_at : ℕ → List ℕ → List Piece
more_at n [] = []
more_at n (b ∷ []) = []
more_at n (b ∷ d ∷ bs) = cond (eqb b 58 && eqb d 58) (segments (n + 2) bs) []

grow : (n b : ℕ) (bs : List ℕ) → inner b ≡ true → segments n (b ∷ bs) ≡ grown b n (segments (n + 1) bs)
grow n b [] e = rw e
grow n b (d ∷ bs) e = rw e

pub seg : (w r : List ℕ) (n : ℕ) → Inners w → NoInner r → segments n (w ++ r) ≡ piece w n (next_at (n + length w) r) ∷ more_at (n + length w) r
seg [] [] n i h = refl
seg [] (b ∷ []) n i h = rw (h, add-zero n)
seg [] (b ∷ d ∷ bs) n i h = rw (h, add-zero n)
seg (x ∷ w) r n i h =
    grow n x (w ++ r) i.0 ∙ ap (grown x n) (seg w r (n + 1) i.1 h)
    ∙ ap (λ m. piece (x ∷ w) n (next_at m r) ∷ more_at m r) (let e : (n + 1) + length w ≡ n + suc (length w) = omega arith in e)

pub inners-take : (bs : List ℕ) (m : ℕ) → m ≤ length bs → ((k : ℕ) → k < m → inner (get_or bs k 0) ≡ true) → Inners (take m bs)
inners-take bs zero h f = tt
inners-take [] (suc m) h f = tt
inners-take (b ∷ bs) (suc m) h f = (f 0 (omega arith), inners-take bs m (omega arith) (λ k l. f (suc k) (omega arith)))

pub ended-drop : (bs : List ℕ) (m : ℕ) → (m < length bs → inner (get_or bs m 0) ≡ false) → NoInner (drop m bs)
ended-drop [] zero f = tt
ended-drop [] (suc m) f = tt
ended-drop (b ∷ bs) zero f = f (omega arith)
ended-drop (b ∷ bs) (suc m) f = ended-drop bs m (λ h. f (omega arith))

-- what is left past a `::`
abbrev Stripped : List ℕ → Option (Bor (List ℕ)) → Type 0
Stripped r o = MatchOption o ((q : List ℕ) → r ≡ 58 ∷ 58 ∷ q → ⊥) (λ x. r ≡ 58 ∷ 58 ∷ x.now)

stripped : (r : List ℕ) (n : ℕ) (o : Option (Bor (List ℕ))) → Stripped r o → segments_from o (n + 2) ≡ more_at n r
stripped r n (Some x) s = rw s
stripped [] n None s = refl
stripped (b ∷ []) n None s = refl
stripped (b ∷ d ∷ bs) n None s =
    elim (cases_Bool (eqb b 58 && eqb d 58)) [
      | inl e ↦
          let t = and_parts (eqb b 58) _ e in
          let x : b ≡ 58 = eqb-true b 58 t.0 in
          let y : d ≡ 58 = eqb-true d 58 t.1 in
          absurd (s bs cc)
      | inr e ↦ rw e
    ]

pub first-segment : (bs w a : List ℕ) (n : ℕ) (o : Option (Bor (List ℕ))) → bs ≡ w ++ a → Inners w → NoInner a → Stripped a o → segments n bs ≡ piece w n (next_at (n + length w) a) ∷ segments_from o (n + length w + 2)
first-segment bs w a n o e i h s = ap (segments n) e ∙ seg w a n i h ∙ ap (λ (t : List Piece). piece w n (next_at (n + length w) a) ∷ t) (sym (stripped a (n + length w) o s))

-- after the last segment none is left, wherever it was
pub same-left : (o : Option (Bor (List ℕ))) (n m : ℕ) → is_some o ≡ false → segments_from o n ≡ segments_from o m
same-left None n m e = refl
same-left (Some x) n m e = absurd (let z : ◌≡◌ {A = ℕ} 0 1 = cc in omega arith)

-- there is at most one segment more than bytes
pub few-segments : (bs : List ℕ) (n : ℕ) → length (segments n bs) ≤ length bs + 1
few-segments [] n = omega arith
few-segments (b ∷ []) n = elim (cases_Bool (inner b)) [ inl e ↦ rw e (omega arith) | inr e ↦ rw e (omega arith) ]
few-segments (b ∷ d ∷ bs) n =
    let one = few-segments (d ∷ bs) (n + 1) in
    let two = few-segments bs (n + 2) in
    elim (cases_Bool (inner b)) [
      | inl e ↦ rw e (let l = longer (segments (n + 1) (d ∷ bs)) in omega arith)
      | inr e ↦ elim (cases_Bool (eqb b 58 && eqb d 58)) [ inl f ↦ rw (e, f) (omega arith) | inr f ↦ rw (e, f) (omega arith) ]
    ]
  where
    longer : (ss : List Piece) → length (grown b n ss) ≤ length ss
    longer [] = omega arith
    longer (s ∷ ss) = omega arith
