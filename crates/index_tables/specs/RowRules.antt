-- The rules of a table's rows: what they name exists, and no key has two rows.
use Rattle.std.specs.Prelude.{◌≡◌, ◌<◌, ◌≤◌, ℕ, true, List, length, Some, slice_get}
use Rattle.hir_def.specs.declared.MacroId.{MacroId}
use Rattle.hir_def.specs.declared.ModuleId.{ModuleId}
use Rattle.nameres.specs.Shapes.{ModuleIn}
use Rattle.item_scope.specs.IndexData.{IndexData, TellsPrelude, TellsMacroUse, NameIn, MacroIn, map_in}
use Rattle.item_scope.specs.declared.index_data.DefMapId.{DefMapId}
use Rattle.item_scope.specs.declared.index_data.ExternPrelude.{ExternPrelude}
use Rattle.item_scope.specs.declared.index_data.MacroUse.{MacroUse}
use Rattle.item_scope.specs.declared.index_data.EnumVariant.{EnumVariant}
use Rattle.keyed.specs.declared.row.Row.{Row}
use Rattle.keyed.specs.Entries.{most_rows}
use Rattle.index_tables.specs.declared.keys.CrateName.{CrateName}
use Rattle.index_tables.specs.declared.keys.MapName.{MapName}
use Rattle.index_tables.specs.declared.keys.ModuleName.{ModuleName}
use Rattle.index_tables.specs.declared.keys.EnumName.{EnumName}

-- of each kind of row, that what its key and its value name exists
abbrev pub ExternPreludeExists : IndexData → CrateName → ExternPrelude → Type 0
ExternPreludeExists f k e = TellsPrelude f k.krate k.name e

abbrev pub MacroUseExists : IndexData → MapName → MacroUse → Type 0
MacroUseExists f k u = TellsMacroUse f k.map k.name u

abbrev pub PreludeExists : IndexData → DefMapId → ModuleId → Type 0
PreludeExists f m p = (map_in f m ≡ true) × ModuleIn f.tree p

abbrev pub LegacyExists : IndexData → ModuleName → MacroId → Type 0
LegacyExists f k d = ModuleIn f.tree k.at × NameIn f k.name × MacroIn f d

abbrev pub VariantExists : IndexData → EnumName → EnumVariant → Type 0
VariantExists f k x = (k.of.0 < f.enums) × NameIn f k.name

-- the rows of a table that keeps the rules: what each row names exists, rows of one key are one row, and there are no more rows
-- than a table uses
pub record GoodRows {K V : Type 0} (Exists : K → V → Type 0) (rows : List (Row K V)) : Type 0 where
  pub exist : (i : ℕ) (r : Row K V) → slice_get rows i ≡ Some r → Exists r.key r.value
  pub keys : (i j : ℕ) (r s : Row K V) → slice_get rows i ≡ Some r → slice_get rows j ≡ Some s → r.key ≡ s.key → i ≡ j
  pub few : length rows ≤ most_rows
