-- The statements of a file, by the numbers of what they declare.
use Rattle.std.specs.Prelude.{ℕ, Bool, true, false, if◌then◌else◌, Some, None, Option, vec_items}
use Rattle.std.specs.Option.{option_map, option_map_or, option_and_then}
use Rattle.std.specs.List.{slice_get}
use Rattle.hir_def.specs.declared.AdtId.TheVariants as adt
use Rattle.hir_def.specs.declared.ModuleDefId.{ModuleDefId}
use Rattle.hir_def.specs.declared.ModuleDefId.TheVariants as def
use Rattle.hir_def.specs.declared.import.ImportOrExternCrate.{ImportOrExternCrate}
use Rattle.hir_def.specs.declared.import.ImportOrExternCrate.TheVariants as import
use Rattle.firmware.specs.declared.definition.Definition.{Definition}
use Rattle.firmware.specs.declared.definition.Standing.{Standing}
use Rattle.firmware.specs.declared.definition.Standing.TheVariants.{Place, Variant, Apart}
use Rattle.firmware.specs.declared.definitions.Definitions.{Definitions}

-- the statement of what a name stands for; a built-in type has none
abbrev pub definition_of : Definitions → ModuleDefId → Option Definition
definition_of f (def.ModuleId m) = slice_get (vec_items f.modules) m.0
definition_of f (def.FunctionId x) = slice_get (vec_items f.others) x.0
definition_of f (def.AdtId (adt.StructId s)) = slice_get (vec_items f.others) s.0
definition_of f (def.AdtId (adt.UnionId u)) = slice_get (vec_items f.others) u.0
definition_of f (def.AdtId (adt.EnumId e)) = slice_get (vec_items f.enums) e.0
definition_of f (def.EnumVariantId x) = slice_get (vec_items f.others) x.0
definition_of f (def.ConstId c) = slice_get (vec_items f.others) c.0
definition_of f (def.StaticId s) = slice_get (vec_items f.others) s.0
definition_of f (def.TraitId t) = slice_get (vec_items f.others) t.0
definition_of f (def.TypeAliasId t) = slice_get (vec_items f.others) t.0
definition_of f (def.BuiltinType b) = None
definition_of f (def.MacroId m) = slice_get (vec_items f.macros) m.0

-- the statement that brought an entry: its import, or where it has none the definition itself
abbrev pub statement_of : Definitions → ModuleDefId → Option ImportOrExternCrate → Option Definition
statement_of f d (Some (import.Import i)) = slice_get (vec_items f.imports) i.0
statement_of f d (Some (import.Glob g)) = slice_get (vec_items f.globs) g.0
statement_of f d (Some (import.ExternCrate x)) = slice_get (vec_items f.extern_crates) x.0
statement_of f d None = definition_of f d

abbrev pub line_of : Definitions → ModuleDefId → Option ImportOrExternCrate → Option ℕ
line_of f d i = option_map (λ s. s.line) (statement_of f d i)

abbrev is_place : Standing → Bool
is_place Place = true
is_place (Variant e) = false
is_place Apart = false

-- the statement that brought an entry, if it made a delivery
abbrev pub place_of : Definitions → ModuleDefId → Option ImportOrExternCrate → Option Definition
place_of f d i = option_and_then (λ s. if is_place s.standing then Some s else None) (statement_of f d i)

abbrev enum_or : ModuleDefId → Standing → ModuleDefId
enum_or d Place = d
enum_or d (Variant e) = def.AdtId (adt.EnumId e)
enum_or d Apart = d

-- the enum of a variant; all else is an item itself
abbrev pub item_of : Definitions → ModuleDefId → ModuleDefId
item_of f d = option_map_or (λ s. enum_or d s.standing) (definition_of f d) d
