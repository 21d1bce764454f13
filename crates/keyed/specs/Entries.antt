-- What a table holds: rows with keys and their values, and the rows that are free.
use Rattle.std.specs.Prelude.{◌≡◌, ℕ, ◌<◌, ◌^◌, Bool, false, is_some, List, [], ◌∷◌, Option, None, Some, if◌then◌else◌}
use Rattle.std.proofs.Common.{lit<}
use Rattle.keyed.specs.declared.row.Row.{Row}

abbrev pub row : {K V : Type 0} → K → V → Row K V
row key value = record { key = key; value = value }

-- the rows that are used, in the order in which their keys came, and the free ones as they stand
pub record Contents (K V : Type 0) : Type 0 where
  pub entries : List (Row K V)
  pub free : List (Row K V)

-- a table uses no more rows: a link tells a row in 32 bits, as one more than its number
unfoldable pub most_rows : ℕ
most_rows = 0xFFFF_FFFF

pub most_rows_few : most_rows < 2 ^ 32
unfolding most_rows
most_rows_few = lit< tt

-- the value of the first row with an equal key
abbrev pub find : {K V : Type 0} → (K → K → Bool) → List (Row K V) → K → Option V
find eq [] key = None
find eq (e ∷ entries) key = if eq e.key key then Some e.value else find eq entries key

-- the value put in place of an equal key's, whose key stays, or behind all
abbrev pub put : {K V : Type 0} → (K → K → Bool) → List (Row K V) → K → V → List (Row K V)
put eq [] key value = row key value ∷ []
put eq (e ∷ entries) key value =
    if eq e.key key then row e.key value ∷ entries else e ∷ put eq entries key value

-- equal keys find the value, and all others what they found before
abbrev pub Overwrites : {K V : Type 0} → (K → K → Bool) → List (Row K V) → List (Row K V) → K → V → Type 0
Overwrites eq old new key value = (q : _) → find eq new q ≡ (if eq q key then Some value else find eq old q)

-- whether the next free row has a key that is there
abbrev pub next_is_present : {K V : Type 0} → (K → K → Bool) → List (Row K V) → List (Row K V) → Bool
next_is_present eq entries [] = false
next_is_present eq entries (r ∷ free) = is_some (find eq entries r.key)
