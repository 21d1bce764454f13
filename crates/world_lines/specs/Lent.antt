-- The rows that a world's tables lend to an index.
use Rattle.std.specs.Prelude.{◌-◌, ◌^◌, List, length, min, vec_items}
use Rattle.index_tables.specs.IndexRows.{IndexRows}
use Rattle.nameres.specs.declared.tree_rows.CrateRow.{CrateRow}
use Rattle.world_lines.specs.declared.tables.Tables.{Tables}

-- there are as many macros as styles that were told
abbrev pub lent : Tables → List CrateRow → IndexRows
lent t crates = record {
  tree = record { modules = vec_items t.modules; blocks = vec_items t.blocks; crates = crates };
  names = t.names;
  enums = t.index.enums;
  macros = min (length (vec_items t.index.styles)) (2 ^ 32 - 1);
  extern_prelude = vec_items t.index.extern_prelude;
  macro_use = vec_items t.index.macro_use;
  preludes = vec_items t.index.preludes;
  legacy = vec_items t.index.legacy;
  variants = vec_items t.index.variants;
  styles = vec_items t.index.styles;
}
