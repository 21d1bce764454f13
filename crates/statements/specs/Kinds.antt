-- The entries that an item is by its kind, and what an import makes of them.
use Rattle.std.specs.Prelude.{ℕ, Bool, true, false, if◌then◌else◌, None}
use Rattle.std.specs.Option.{option_map}
use Rattle.hir_def.specs.declared.AdtId.TheVariants as adt
use Rattle.hir_def.specs.declared.ModuleDefId.{ModuleDefId}
use Rattle.hir_def.specs.declared.ModuleDefId.TheVariants as def
use Rattle.hir_def.specs.declared.import.ImportOrExternCrate.{ImportOrExternCrate}
use Rattle.hir_def.specs.declared.import.ImportOrExternCrate.TheVariants as import
use Rattle.entries.specs.declared.per_ns.Item.{Item}
use Rattle.entries.specs.declared.per_ns.PerNs.{PerNs}
use Rattle.entries.specs.declared.visibility.Visibility.{Visibility}
use Rattle.entries.specs.Entries.{of_types, of_values, of_both, of_macros}
use Rattle.statements.specs.declared.kinds.Shape.{Shape}
use Rattle.statements.specs.declared.kinds.Shape.TheVariants as shape
use Rattle.statements.specs.declared.kinds.ItemKind.{ItemKind}
use Rattle.statements.specs.declared.kinds.ItemKind.TheVariants as kind
use Rattle.statements.specs.declared.kinds.Bringing.{Bringing}
use Rattle.statements.specs.declared.kinds.Bringing.TheVariants as bringing

abbrev pub has_constructor : Shape → Bool
has_constructor shape.Unit = true
has_constructor shape.Tuple = true
has_constructor shape.Record = false

-- a type, which is a value too where it has a constructor
abbrev pub shaped : ModuleDefId → Shape → Visibility → PerNs
shaped d s vis = if has_constructor s then of_both d d vis None else of_types d vis None

-- what a name of the item with that number among those of its kind stands for
abbrev pub def_of : ItemKind → ℕ → ModuleDefId
def_of kind.Function n = def.FunctionId (record { 0 = n })
def_of kind.Const n = def.ConstId (record { 0 = n })
def_of kind.Static n = def.StaticId (record { 0 = n })
def_of (kind.Struct s) n = def.AdtId (adt.StructId (record { 0 = n }))
def_of kind.Union n = def.AdtId (adt.UnionId (record { 0 = n }))
def_of kind.Enum n = def.AdtId (adt.EnumId (record { 0 = n }))
def_of kind.Trait n = def.TraitId (record { 0 = n })
def_of kind.TypeAlias n = def.TypeAliasId (record { 0 = n })
def_of (kind.Macro styles) n = def.MacroId (record { 0 = n })
def_of (kind.Variant s) n = def.EnumVariantId (record { 0 = n })

-- the entries of that item
abbrev pub entries_of : ItemKind → ℕ → Visibility → PerNs
entries_of kind.Function n vis = of_values (def_of kind.Function n) vis None
entries_of kind.Const n vis = of_values (def_of kind.Const n) vis None
entries_of kind.Static n vis = of_values (def_of kind.Static n) vis None
entries_of (kind.Struct s) n vis = shaped (def_of (kind.Struct s) n) s vis
entries_of kind.Union n vis = of_types (def_of kind.Union n) vis None
entries_of kind.Enum n vis = of_types (def_of kind.Enum n) vis None
entries_of kind.Trait n vis = of_types (def_of kind.Trait n) vis None
entries_of kind.TypeAlias n vis = of_types (def_of kind.TypeAlias n) vis None
entries_of (kind.Macro styles) n vis = of_macros (record { 0 = n }) vis None
entries_of (kind.Variant s) n vis = shaped (def_of (kind.Variant s) n) s vis

-- the import with that number among those of its kind
abbrev pub import_of : Bringing → ℕ → ImportOrExternCrate
import_of bringing.Named n = import.Import (record { 0 = n })
import_of bringing.Glob n = import.Glob (record { 0 = n })
import_of bringing.ExternCrate n = import.ExternCrate (record { 0 = n })

abbrev pub seen_by : {D M : Type 0} → Visibility → Item D M → Item D M
seen_by vis it = record { def = it.def; vis = vis; import = it.import }

-- the entries, each with that visibility
abbrev pub with_visibility : Visibility → PerNs → PerNs
with_visibility vis e = record { types = option_map (seen_by vis) e.types; values = option_map (seen_by vis) e.values; macros = option_map (seen_by vis) e.macros }
