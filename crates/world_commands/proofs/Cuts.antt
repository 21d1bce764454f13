-- A text that is cut at a byte.
use Rattle.std.proofs.Common.{◌≡◌, ◌≢◌, ℕ, suc, ◌<◌, true, List, [], ◌∷◌, ◌++◌, length, get_or, refl, arith, Some, None, Option}
use Rattle.std.specs.Option.{MatchOption}
use Rattle.std.specs.Borrow.{Bor}
use Rattle.std.proofs.lemmas.Grind.{common_steps}
use Rattle.source_text.specs.Words.{lacks}
use Rattle.world_commands.specs.Words.{Cuts}

-- a list without such an element, by its places
no_place : (c : ℕ) (xs : List ℕ) → ((i : ℕ) → i < length xs → get_or xs i 0 ≢ c) → lacks c xs ≡ true
no_place c [] h = refl
no_place c (x ∷ xs) h = let t = no_place c xs (λ i l. h (suc i) (omega arith)) in let z = h 0 (omega arith) in grind (arith, common_steps)

-- the byte between two parts
between : (c : ℕ) (x y : List ℕ) → get_or (x ++ c ∷ y) (length x) 0 ≡ c
between c [] y = refl
between c (b ∷ x) y = between c x y

inside : (c : ℕ) (x y : List ℕ) → length x < length (x ++ c ∷ y)
inside c [] y = omega arith
inside c (b ∷ x) y = let h = inside c x y in omega arith

pub cut_of : (c : ℕ) (w : List ℕ) (o : Option (Bor (List ℕ) × Bor (List ℕ))) → MatchOption o ((i : ℕ) → i < length w → get_or w i 0 ≢ c) (λ x. (w ≡ x.0.now ++ (c ∷ x.1.now)) × ((i : ℕ) → i < length x.0.now → get_or x.0.now i 0 ≢ c)) → Cuts c w o
cut_of c w None h = λ x y e. h (length x) (rw e (inside c x y)) (rw e (between c x y))
cut_of c w (Some p) h = (no_place c p.0.now h.1, h.0)
