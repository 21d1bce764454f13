-- A text that is cut at its first blank.
use Rattle.std.proofs.Common.{◌≡◌, ◌≢◌, ℕ, suc, ◌<◌, ◌==◌, false, List, [], ◌∷◌, ◌++◌, length, get_or, refl, arith, Some, None, Option}
use Rattle.std.specs.Option.{MatchOption}
use Rattle.std.specs.List.{All}
use Rattle.std.specs.Borrow.{Bor}
use Rattle.std.proofs.lemmas.Grind.{common_steps}
use Rattle.std.proofs.lemmas.List.Elements.{All-nil, All-cons}
use Rattle.std.proofs.lemmas.List.Splits.{slice_split_none, slice_split_at, length-slice_split}
use Rattle.world_commands.specs.Words.{parts_of}

other : (b : ℕ) → b ≢ 32 → (b == 32) ≡ false
other b h = grind (arith, common_steps)

no_blank : (xs : List ℕ) → ((i : ℕ) → i < length xs → get_or xs i 0 ≢ 32) → All (λ b. (b == 32) ≡ false) xs
no_blank [] h = All-nil (λ b. (b == 32) ≡ false)
no_blank (x ∷ xs) h = All-cons (λ b. (b == 32) ≡ false) x xs (other x (h 0 (omega arith))) (no_blank xs (λ i l. h (suc i) (omega arith)))

pub cut_of : (w : List ℕ) (o : Option (Bor (List ℕ) × Bor (List ℕ))) → MatchOption o ((i : ℕ) → i < length w → get_or w i 0 ≢ 32) (λ x. (w ≡ x.0.now ++ (32 ∷ x.1.now)) × ((i : ℕ) → i < length x.0.now → get_or x.0.now i 0 ≢ 32)) → MatchOption o (parts_of 32 w ≡ w ∷ []) (λ p. parts_of 32 w ≡ p.0.now ∷ parts_of 32 p.1.now)
cut_of w None h = slice_split_none (λ b. b == 32) w (no_blank w h)
cut_of w (Some p) h = rw h.0 (slice_split_at (λ b. b == 32) p.0.now 32 p.1.now (no_blank p.0.now h.1) refl)

-- a text that is cut twice has three parts at least
pub three_parts : (w x y v z : List ℕ) → parts_of 32 w ≡ x ∷ parts_of 32 y → parts_of 32 y ≡ v ∷ parts_of 32 z → length (parts_of 32 w) ≢ 2
three_parts w x y v z h k e =
    let l = length-slice_split (λ b. b == 32) z in
    let m : length (parts_of 32 w) ≡ suc (suc (length (parts_of 32 z))) = rw (h, k) refl in omega (arith, e, l, m)
