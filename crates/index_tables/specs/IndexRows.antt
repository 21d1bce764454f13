-- The rows of an index's tables, and what they tell.
use Rattle.std.specs.Prelude.{ℕ, List, length, slice_index_or}
use Rattle.hir_def.specs.declared.MacroId.{MacroId}
use Rattle.hir_def.specs.declared.ModuleId.{ModuleId}
use Rattle.nameres.specs.Rows.{Rows, rows_of, tree_of}
use Rattle.item_scope.specs.IndexData.{IndexData, no_styles}
use Rattle.item_scope.specs.declared.index_data.DefMapId.{DefMapId}
use Rattle.item_scope.specs.declared.index_data.ExternPrelude.{ExternPrelude}
use Rattle.item_scope.specs.declared.index_data.MacroUse.{MacroUse}
use Rattle.item_scope.specs.declared.index_data.EnumVariant.{EnumVariant}
use Rattle.item_scope.specs.declared.index_data.CallStyles.{CallStyles}
use Rattle.item_scope.specs.contracts.index_data.DefMapIdPartialEq.TheImpl.{eq-value as same_map}
use Rattle.keyed.specs.declared.row.Row.{Row}
use Rattle.keyed.specs.Entries.{find}
use Rattle.index_tables.specs.contracts.keys.CrateNamePartialEq.TheImpl.{eq-value as same_crate_name}
use Rattle.index_tables.specs.contracts.keys.MapNamePartialEq.TheImpl.{eq-value as same_map_name}
use Rattle.index_tables.specs.contracts.keys.ModuleNamePartialEq.TheImpl.{eq-value as same_module_name}
use Rattle.index_tables.specs.contracts.keys.EnumNamePartialEq.TheImpl.{eq-value as same_enum_name}
use Rattle.index_tables.specs.declared.keys.CrateName.{CrateName}
use Rattle.index_tables.specs.declared.keys.MapName.{MapName}
use Rattle.index_tables.specs.declared.keys.ModuleName.{ModuleName}
use Rattle.index_tables.specs.declared.keys.EnumName.{EnumName}
use Rattle.index_tables.specs.declared.loaded_tables.IndexTables.{IndexTables}
use Rattle.index_tables.specs.declared.numbers.Counts.{Counts}

pub record IndexRows : Type 0 where
  pub tree : Rows
  pub names : ℕ
  pub enums : ℕ
  pub macros : ℕ
  pub extern_prelude : List (Row CrateName ExternPrelude)
  pub macro_use : List (Row MapName MacroUse)
  pub preludes : List (Row DefMapId ModuleId)
  pub legacy : List (Row ModuleName MacroId)
  pub variants : List (Row EnumName EnumVariant)
  pub styles : List CallStyles

-- the rows as the caller lends them
abbrev pub lent_rows : IndexTables → IndexRows
lent_rows t = record {
  tree = rows_of t.tree;
  names = t.names;
  enums = t.enums;
  macros = t.macros;
  extern_prelude = t.extern_prelude.now;
  macro_use = t.macro_use.now;
  preludes = t.preludes.now;
  legacy = t.legacy.now;
  variants = t.variants.now;
  styles = t.styles.now;
}

abbrev pub counts_of : IndexRows → Counts
counts_of r = record {
  modules = length r.tree.modules;
  blocks = length r.tree.blocks;
  crates = length r.tree.crates;
  names = r.names;
  enums = r.enums;
  macros = r.macros;
}

-- what the rows tell: of each key its row, and of macro i row i of the styles
abbrev pub data_from : IndexRows → IndexData
data_from r = record {
  tree = tree_of r.tree;
  names = r.names;
  enums = r.enums;
  macro_count = r.macros;
  extern_prelude = λ c n. find same_crate_name.it r.extern_prelude (record { krate = c; name = n });
  macro_use = λ m n. find same_map_name.it r.macro_use (record { map = m; name = n });
  prelude = λ m. find same_map.it r.preludes m;
  legacy = λ m n. find same_module_name.it r.legacy (record { at = m; name = n });
  variant = λ e n. find same_enum_name.it r.variants (record { of = e; name = n });
  styles = λ m. slice_index_or r.styles m.0 no_styles;
}
