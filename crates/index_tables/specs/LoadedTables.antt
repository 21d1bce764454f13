-- The rows that an index has loaded, and what they tell.
use Rattle.std.specs.Prelude.{[]}
use Rattle.std.specs.declared.hash.Hasher as hasher
use Rattle.std.specs.declared.hash.BuildHasher as builder
use Rattle.nameres.specs.Rows.{no_rows}
use Rattle.nameres.specs.Tabled.{rows_in as tree_rows_in}
use Rattle.item_scope.specs.IndexData.{IndexData}
use Rattle.index_tables.specs.declared.loaded_tables.LoadedTables.{LoadedTables}
use Rattle.index_tables.specs.IndexRows.{IndexRows, data_from}

abbrev pub no_index_rows : IndexRows
no_index_rows = record { tree = no_rows; names = 0; enums = 0; macros = 0; extern_prelude = []; macro_use = []; preludes = []; legacy = []; variants = []; styles = [] }

abbrev pub rows_in : {S H : Type 0} {build : builder.Ghosts S H} {hash : hasher.Ghosts H} → LoadedTables S H build hash → IndexRows
rows_in t = record {
  tree = tree_rows_in t.tree;
  names = t.names;
  enums = t.enums;
  macros = t.macros;
  extern_prelude = t.extern_prelude.entries;
  macro_use = t.macro_use.entries;
  preludes = t.preludes.entries;
  legacy = t.legacy.entries;
  variants = t.variants.entries;
  styles = t.styles.now;
}

-- what an index with the tables tells beside its places
abbrev pub data_of : {S H : Type 0} {build : builder.Ghosts S H} {hash : hasher.Ghosts H} → LoadedTables S H build hash → IndexData
data_of t = data_from (rows_in t)
