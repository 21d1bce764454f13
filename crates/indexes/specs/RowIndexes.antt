-- What an index over rows tells, how many rows are free, and its rows.
use Rattle.std.specs.Prelude.{ℕ, Bool, Result, length, is_ok}
use Rattle.std.specs.declared.hash.Hasher as hasher
use Rattle.std.specs.declared.hash.BuildHasher as builder
use Rattle.hir_def.specs.declared.fault.IndexFault.{IndexFault}
use Rattle.item_scope.specs.declared.delivery.Delivery.{Delivery}
use Rattle.item_scope.specs.Deliveries.{Takes}
use Rattle.item_scope.specs.IndexData.{IndexData}
use Rattle.item_scope.specs.Views.{View}
use Rattle.keyed.specs.Entries.{Contents}
use Rattle.index_tables.specs.LoadedTables.{data_of}
use Rattle.indexes.specs.declared.entry.Entry.{Entry}
use Rattle.indexes.specs.declared.place_rows.PlaceRows as place_rows
use Rattle.indexes.specs.declared.row_index.RowIndex.{RowIndex}
use Rattle.indexes.specs.Told.{view_of, no_places}
use Rattle.indexes.specs.Storing.{told, Stores}

-- the used rows and the free ones
abbrev pub contents_in : {R S K H : Type 0} {rows : place_rows.Ghosts R K} {build : builder.Ghosts S H} {hash : hasher.Ghosts H} → RowIndex R S K H rows build hash → Contents K Entry
contents_in {rows = rows} x = rows.contents x.rows

abbrev pub view_in : {R S K H : Type 0} {rows : place_rows.Ghosts R K} {build : builder.Ghosts S H} {hash : hasher.Ghosts H} → RowIndex R S K H rows build hash → View
view_in {rows = rows} x = view_of (data_of x.tables) (told rows.storing (rows.contents x.rows).entries)

abbrev pub left_in : {R S K H : Type 0} {rows : place_rows.Ghosts R K} {build : builder.Ghosts S H} {hash : hasher.Ghosts H} → RowIndex R S K H rows build hash → ℕ
left_in {rows = rows} x = length (rows.contents x.rows).free

-- an index that tells the data, and every place as empty
abbrev pub empty_index : IndexData → View
empty_index f = view_of f no_places

-- a delivery to the index does what one does to any
abbrev pub Receives : {R S K H : Type 0} {rows : place_rows.Ghosts R K} {build : builder.Ghosts S H} {hash : hasher.Ghosts H} → RowIndex R S K H rows build hash → Delivery → Result Bool IndexFault → RowIndex R S K H rows build hash → Type 0
Receives before d result after = Takes (view_in before) (left_in before) d result (view_in after) (left_in after)

-- what a delivery to the index does: to what it tells, and to every row
pub record Delivers {R S K H : Type 0} {rows : place_rows.Ghosts R K} {build : builder.Ghosts S H} {hash : hasher.Ghosts H}
    (before : RowIndex R S K H rows build hash) (d : Delivery) (result : Result Bool IndexFault) (after : RowIndex R S K H rows build hash) : Type 0 where
  pub takes : Receives before d result after
  pub stores : Stores rows.storing (contents_in before) d (is_ok result) (contents_in after)
