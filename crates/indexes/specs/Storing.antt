-- How a make keeps entries in rows, and what every row holds when a delivery was taken.
use Rattle.std.specs.Prelude.{◌≡◌, ℕ, ◌+◌, Bool, if◌then◌else◌, ◌||◌, List, [], ◌∷◌, ◌++◌, length, drop, None, Some, Option}
use Rattle.std.specs.Option.{option_map}
use Rattle.hir_def.specs.declared.ModuleId.{ModuleId}
use Rattle.hir_def.specs.declared.Name.{Name}
use Rattle.item_scope.specs.declared.delivery.Delivery.{Delivery}
use Rattle.item_scope.specs.IndexData.{IndexData}
use Rattle.item_scope.specs.Places.{takes, is_empty}
use Rattle.item_scope.specs.Views.{Places}
use Rattle.item_scope.specs.Deliveries.{brought, changed, delivered, any_changed}
use Rattle.keyed.specs.declared.row.Row.{Row}
use Rattle.keyed.specs.Entries.{Contents}
use Rattle.indexes.specs.declared.entry.Entry.{Entry}
use Rattle.indexes.specs.declared.entry.PlaceKey.{PlaceKey}
use Rattle.indexes.specs.contracts.entry.PlaceKeyPartialEq.TheImpl.{eq-value as same_key}
use Rattle.indexes.specs.Spaces.{AllPlaces, Space, type_space, value_space, macro_space}
use Rattle.indexes.specs.Told.{key, place_of, places_of, view_of}

pub record Storing (K : Type 0) : Type 0 where
  -- the entries that the used rows hold for a place
  pub came : List (Row K Entry) → PlaceKey → List Entry
  -- the used rows when an entry has come to a place, by whether it is stored there
  pub stored : List (Row K Entry) → PlaceKey → Bool → Entry → List (Row K Entry)
  -- whether each entry takes a row of its own, and not the first of its place alone
  pub each : Bool

-- the entries of a place of which rows hold some, when one more has come
abbrev pub keep : Bool → List Entry → Bool → Entry → List Entry
keep each es holds e = if each then es ++ e ∷ [] else if holds then e ∷ [] else es

-- the entries of each place when one, if there is one, has come to a place
abbrev pub arrivals : Bool → (PlaceKey → List Entry) → PlaceKey → Bool → Option Entry → PlaceKey → List Entry
arrivals each came k holds None q = came q
arrivals each came k holds (Some e) q = if same_key.it q k then keep each (came q) holds e else came q

-- rows of which none is used, and the rows of all
abbrev pub all_free : {K : Type 0} → List (Row K Entry) → Contents K Entry
all_free rows = record { entries = []; free = rows }

abbrev pub rows_of : {K : Type 0} → Contents K Entry → List (Row K Entry)
rows_of c = c.entries ++ c.free

-- what the used rows tell
abbrev pub told : {K : Type 0} → Storing K → List (Row K Entry) → AllPlaces
told s rows = places_of (s.came rows)

module _ {K T : Type 0} (s : Storing K) (space : Space T) where
  -- the places of a namespace
  abbrev pub told_of : List (Row K Entry) → Places T
  told_of rows m n = place_of space (s.came rows (key space.namespace m n))

  -- the used rows when an entry, if there is one, has come
  abbrev pub come : List (Row K Entry) → ModuleId → Name → Option T → List (Row K Entry)
  come rows m n None = rows
  come rows m n (Some e) = s.stored rows (key space.namespace m n) (takes space.tests (told_of rows m n) e) (space.to e)

-- how many free rows an entry takes, if there is one
abbrev pub row_for : {T : Type 0} → Bool → Places T → ModuleId → Name → Option T → ℕ
row_for each places m n None = 0
row_for each places m n (Some e) = if each || is_empty (places m n) then 1 else 0

-- the used rows when the entries of a delivery have come in turn
abbrev pub come_all : {K : Type 0} → Storing K → List (Row K Entry) → Delivery → List (Row K Entry)
come_all s rows d =
    let m = d.receiver in
    let n = d.name in
    let e = brought d in
    come s macro_space (come s value_space (come s type_space rows m n e.types) m n e.values) m n e.macros

-- how many free rows they take
abbrev pub rows_for : Bool → AllPlaces → Delivery → ℕ
rows_for each p d =
    row_for each p.types d.receiver d.name (brought d).types
    + row_for each p.values d.receiver d.name (brought d).values
    + row_for each p.macros d.receiver d.name (brought d).macros

-- what every row holds after a delivery, taken or not, and how many are free
pub record Stores {K : Type 0} (s : Storing K) (before : Contents K Entry) (d : Delivery) (taken : Bool) (after : Contents K Entry) : Type 0 where
  -- the used rows
  pub entries : after.entries ≡ (if taken then come_all s before.entries d else before.entries)
  -- free rows are used in turn; the others stand as they stood
  pub free : after.free ≡ drop (if taken then rows_for s.each (told s before.entries) d else 0) before.free
  pub left : length before.free ≡ length after.free + (if taken then rows_for s.each (told s before.entries) d else 0)
  -- no row comes or goes
  pub all : length after.entries + length after.free ≡ length before.entries + length before.free

-- the same of one entry, if there is one, that comes to a place, and whether it is stored there
pub record Comes {K T : Type 0} (s : Storing K) (space : Space T) (before : Contents K Entry) (m : ModuleId) (n : Name) (e : Option T) (holds : Bool) (after : Contents K Entry) : Type 0 where
  pub answers : holds ≡ changed space.tests (told_of s space before.entries) m n e
  pub entries : after.entries ≡ come s space before.entries m n e
  pub free : after.free ≡ drop (row_for s.each (told_of s space before.entries) m n e) before.free
  pub left : length before.free ≡ length after.free + row_for s.each (told_of s space before.entries) m n e
  pub all : length after.entries + length after.free ≡ length before.entries + length before.free
  pub told : (q : PlaceKey) → s.came after.entries q ≡ arrivals s.each (s.came before.entries) (key space.namespace m n) holds (option_map space.to e) q

-- whatever else an index tells, its rows tell what a delivery makes of it
abbrev pub TellsDelivered : {K : Type 0} → Storing K → Contents K Entry → Delivery → Contents K Entry → Type 0
TellsDelivered s before d after = (f : IndexData) → view_of f (told s after.entries) ≡ delivered (view_of f (told s before.entries)) d

-- and whether it changes a namespace
abbrev pub TellsChanged : {K : Type 0} → Storing K → Contents K Entry → Delivery → Bool → Type 0
TellsChanged s before d result = (f : IndexData) → result ≡ any_changed (view_of f (told s before.entries)) d
