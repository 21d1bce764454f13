-- Numbers in columns.
use Rattle.std.specs.Prelude.{ℕ, ◌-◌, List, ◌++◌, length, replicate, decimal}

-- a number that stands right in eight columns; a longer one stands whole
unfoldable pub aligned : ℕ → List ℕ
aligned n = replicate (8 - length (decimal n)) 32 ++ decimal n
