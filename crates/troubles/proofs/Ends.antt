-- A line of a text as it is taken from it, without the carriage return at its end.
use Rattle.std.proofs.Common.{arith, ◌≡◌, ℕ, ◌+◌, ◌&&◌, ◌-◌, ◌==◌, Bool, true, false, List, [], ◌∷◌, length, take, drop, Option, Some, None, MatchOption, Bor, slice_index, sym, ap, subst, refl, ◌∙◌, if◌then◌else◌}
use Rattle.std.specs.Cmp.Lexicographic.{pointwise}
use Rattle.std.specs.Option.{option_map, unwrap_or}
use Rattle.std.specs.Str.Lines.{strip_carriage_return}

-- what was taken, and what stands in for it where there is none
pub taken : (r : Option (Bor (List ℕ))) (d : Bor (List ℕ)) (o : Option (List ℕ)) → option_map (λ x. x.now) r ≡ o
    → (unwrap_or r d).now ≡ unwrap_or o d.now
taken None d o e = ap (λ (p : Option (List ℕ)). unwrap_or p d.now) e
taken (Some x) d o e = ap (λ (p : Option (List ℕ)). unwrap_or p d.now) e

abbrev ends_so : List ℕ → Bool
ends_so l = pointwise (λ (a b : ℕ). a == b) (drop (length l - 1) l) (13 ∷ [])

-- whether it ends so, as its last byte and as the list of that byte alone
and_true : (b : Bool) → (b && true) ≡ b
and_true true = refl
and_true false = refl

last_at : (x : ℕ) (more : List ℕ)
    → pointwise (λ (a b : ℕ). a == b) (drop (length more) (x ∷ more)) (13 ∷ []) ≡ (slice_index (x ∷ more) (length more) == 13)
last_at x [] = and_true (x == 13)
last_at x (y ∷ more) = last_at y more

ends : (l : List ℕ) → ends_so l ≡ (slice_index l (length l - 1) == 13)
ends [] = refl
ends (x ∷ more) =
    let e : length more ≡ length (x ∷ more) - 1 = omega (arith) in
    subst (λ (k : ℕ). pointwise (λ (a b : ℕ). a == b) (drop k (x ∷ more)) (13 ∷ []) ≡ (slice_index (x ∷ more) k == 13)) e (last_at x more)

abbrev if_so : List ℕ → Bool → List ℕ
if_so l b = if b then take (length l - 1) l else l

pub stripped : (l : Bor (List ℕ)) (r : Option (Bor (List ℕ)))
    → MatchOption r (ends_so l.now ≡ false) (λ x. (ends_so l.now ≡ true) × (x.now ≡ take (length l.now - 1) l.now) × (length x.now + 1 ≡ length l.now))
    → (unwrap_or r l).now ≡ strip_carriage_return l.now
stripped l None h = ap (if_so l.now) (sym h ∙ ends l.now)
stripped l (Some x) h = h.1 ∙ ap (if_so l.now) (sym h.0 ∙ ends l.now)
