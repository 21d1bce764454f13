-- The first place that passes a test, or the end.
use Rattle.std.proofs.Common.{◌≡◌, ℕ, ◌≤◌, Bool, not, List, length, arith, Some, None, nat_lt, if◌then◌else◌}
use Rattle.std.specs.List.{position, position_or_len}
use Rattle.std.specs.Option.{unwrap_or}
use Rattle.std.proofs.lemmas.Grind.{common_steps}
use Rattle.std.proofs.lemmas.List.Sums.{prefix_len-le-length}

or_end : (n m : ℕ) → n ≤ m → unwrap_or (if nat_lt n m then Some n else None) m ≡ n
or_end n m h = grind (arith, common_steps)

pub first_or_end : {X : Type 0} → (p : X → Bool) (xs : List X) → unwrap_or (position p xs) (length xs) ≡ position_or_len p xs
first_or_end p xs = or_end (position_or_len p xs) (length xs) (prefix_len-le-length (λ x. not (p x)) xs)
