-- Rows, and what the first of them hold.
use Rattle.std.specs.Prelude.{ℕ, Bool, false, List, map, take, drop}
use Rattle.std.proofs.Common.{get_or}
use Rattle.keyed.specs.declared.row.Row.{Row}
use Rattle.keyed.specs.Entries.{Contents}

abbrev pub contents_of : {K V : Type 0} → List (Row K V) → ℕ → Contents K V
contents_of rows used = record { entries = take used rows; free = drop used rows }

-- f of the element at an index, and past the end y
abbrev pub part_at : {X Y : Type 0} → (X → Y) → Y → List X → ℕ → Y
part_at f y xs index = get_or (map f xs) index y

abbrev pub hash_at : {K V : Type 0} → (K → ℕ) → List (Row K V) → ℕ → ℕ
hash_at hash rows = part_at (λ row. hash row.key) 0 rows

-- does the row at an index have the key
abbrev pub has_key : {K V : Type 0} → (K → K → Bool) → List (Row K V) → K → ℕ → Bool
has_key eq rows key = part_at (λ row. eq row.key key) false rows
