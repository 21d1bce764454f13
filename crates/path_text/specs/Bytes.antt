-- Bytes of words.
use Rattle.std.specs.Prelude.{ℕ, Bool, ◌&&◌, ◌||◌, ◌==◌, nat_le}

-- an ASCII letter or an underscore begins a word
abbrev pub letter : ℕ → Bool
letter b = (nat_le 97 b && nat_le b 122) || ((nat_le 65 b && nat_le b 90) || b == 95)

-- a word goes on with those or digits
abbrev pub inner : ℕ → Bool
inner b = letter b || (nat_le 48 b && nat_le b 57)
