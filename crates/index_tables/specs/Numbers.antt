-- Which numbers exist.
use Rattle.std.specs.Prelude.{Bool, ◌&&◌, None, nat_lt}
use Rattle.hir_def.specs.declared.MacroId.{MacroId}
use Rattle.hir_def.specs.declared.ModuleId.{ModuleId}
use Rattle.nameres.specs.Rows.{tree_of, no_rows}
use Rattle.item_scope.specs.IndexData.{IndexData, map_in, no_styles}
use Rattle.item_scope.specs.declared.index_data.DefMapId.{DefMapId}
use Rattle.item_scope.specs.declared.index_data.ExternPrelude.{ExternPrelude}
use Rattle.item_scope.specs.declared.index_data.MacroUse.{MacroUse}
use Rattle.item_scope.specs.declared.index_data.EnumVariant.{EnumVariant}
use Rattle.index_tables.specs.declared.keys.CrateName.{CrateName}
use Rattle.index_tables.specs.declared.keys.MapName.{MapName}
use Rattle.index_tables.specs.declared.keys.ModuleName.{ModuleName}
use Rattle.index_tables.specs.declared.keys.EnumName.{EnumName}
use Rattle.index_tables.specs.declared.numbers.Counts.{Counts}

-- an index with so many of each, whose tables tell nothing
abbrev pub counted : Counts → IndexData
counted n = record {
  tree = record (tree_of no_rows) { modules = n.modules; blocks = n.blocks; crates = n.crates };
  names = n.names;
  enums = n.enums;
  macro_count = n.macros;
  extern_prelude = λ c name. None;
  macro_use = λ m name. None;
  prelude = λ m. None;
  legacy = λ m name. None;
  variant = λ e name. None;
  styles = λ m. no_styles;
}

-- of each kind of row, that all its numbers exist
abbrev pub extern_prelude_in : Counts → CrateName → ExternPrelude → Bool
extern_prelude_in n k v = nat_lt k.krate.0 n.crates && (nat_lt k.name.0 n.names && nat_lt v.«module».0 n.modules)

abbrev pub macro_use_in : Counts → MapName → MacroUse → Bool
macro_use_in n k v = map_in (counted n) k.map && (nat_lt k.name.0 n.names && nat_lt v.def.0 n.macros)

abbrev pub prelude_in : Counts → DefMapId → ModuleId → Bool
prelude_in n k v = map_in (counted n) k && nat_lt v.0 n.modules

abbrev pub legacy_in : Counts → ModuleName → MacroId → Bool
legacy_in n k v = nat_lt k.at.0 n.modules && (nat_lt k.name.0 n.names && nat_lt v.0 n.macros)

abbrev pub variant_in : Counts → EnumName → EnumVariant → Bool
variant_in n k v = nat_lt k.of.0 n.enums && nat_lt k.name.0 n.names
