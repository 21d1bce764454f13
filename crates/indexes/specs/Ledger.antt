-- The ledger: a row for each entry that came, in the order in which they came.
use Rattle.std.specs.Prelude.{◌≡◌, ℕ, true, List, [], ◌∷◌, ◌++◌, length, map, filter, slice_get}
use Rattle.keyed.specs.declared.row.Row.{Row}
use Rattle.keyed.specs.Entries.{row, find}
use Rattle.indexes.specs.declared.entry.Entry.{Entry}
use Rattle.indexes.specs.declared.entry.PlaceKey.{PlaceKey}
use Rattle.indexes.specs.declared.ledger_index.LedgerKey.{LedgerKey}
use Rattle.indexes.specs.contracts.entry.PlaceKeyPartialEq.TheImpl.{eq-value as same_key}
use Rattle.indexes.specs.contracts.ledger_index.LedgerKeyPartialEq.TheImpl.{eq-value as same_turn}
use Rattle.indexes.specs.Storing.{Storing}

abbrev pub turn_key : PlaceKey → ℕ → LedgerKey
turn_key k turn = record { place = k; turn = turn }

-- the entries that came to a place, in their order
abbrev pub came : List (Row LedgerKey Entry) → PlaceKey → List Entry
came rows k = map (λ r. r.value) (filter (λ r. same_key.it r.key.place k) rows)

abbrev pub ledger_storing : Storing LedgerKey
ledger_storing = record {
  came = came;
  stored = λ rows k holds e. rows ++ row (turn_key k (length (came rows k))) e ∷ [];
  each = true;
}

-- each entry is found by its place and by how many came there before it
abbrev pub FoundByTurn : List (Row LedgerKey Entry) → Type 0
FoundByTurn rows = (k : PlaceKey) (turn : ℕ) → find same_turn.it rows (turn_key k turn) ≡ slice_get (came rows k) turn
