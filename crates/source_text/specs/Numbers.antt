-- Numbers as they are written plainly.
use Rattle.std.specs.Prelude.{◌≡◌, ℕ, ◌<◌, ◌^◌, ◌==◌, Bool, not, ◌&&◌, ◌||◌, List, length, slice_index, Option, MatchOption, decimal}

abbrev pub is_plain : List ℕ → Bool
is_plain text = not (length text == 0) && (not (slice_index text 0 == 43) && (not (slice_index text 0 == 48) || length text == 1))

-- the number whose decimal text this is, if there is one below 2^32
abbrev pub Plain : List ℕ → Option ℕ → Type 0
Plain text o = MatchOption o ((n : ℕ) → n < 2 ^ 32 → ¬ (text ≡ decimal n)) (λ n. (n < 2 ^ 32) × (text ≡ decimal n))
