-- Entries as words of a line.
use Rattle.std.specs.Prelude.{ℕ, List, ◌++◌, codes, decimal, Some, None, Option}
use Rattle.std.specs.Option.{option_map}
use Rattle.hir_def.specs.declared.AdtId.TheVariants as adt
use Rattle.hir_def.specs.declared.ModuleDefId.{ModuleDefId}
use Rattle.hir_def.specs.declared.ModuleDefId.TheVariants as def
use Rattle.hir_def.specs.declared.import.ImportOrExternCrate.{ImportOrExternCrate}
use Rattle.hir_def.specs.declared.import.ImportOrExternCrate.TheVariants as wide
use Rattle.hir_def.specs.Builtins.{name_of}
use Rattle.entries.specs.declared.per_ns.PerNs.{PerNs}
use Rattle.entries.specs.Entries.{value_entry, macro_entry}
use Rattle.entries.specs.declared.visibility.Visibility.{Visibility}
use Rattle.entries.specs.declared.visibility.Visibility.TheVariants.{Module, PubCrate, Public}
use Rattle.entries.specs.declared.visibility.VisibilityExplicitness.TheVariants.{Explicit, Implicit}
use Rattle.item_scope.specs.Views.{Types}

abbrev pub def_kind : ModuleDefId → List ℕ
def_kind (def.ModuleId m) = codes "mod"
def_kind (def.FunctionId x) = codes "fn"
def_kind (def.AdtId (adt.StructId s)) = codes "struct"
def_kind (def.AdtId (adt.UnionId u)) = codes "union"
def_kind (def.AdtId (adt.EnumId e)) = codes "enum"
def_kind (def.EnumVariantId x) = codes "variant"
def_kind (def.ConstId c) = codes "const"
def_kind (def.StaticId s) = codes "static"
def_kind (def.TraitId t) = codes "trait"
def_kind (def.TypeAliasId t) = codes "alias"
def_kind (def.BuiltinType b) = codes "builtin"
def_kind (def.MacroId m) = codes "macro"

-- a built-in type's number is its name's
abbrev pub def_number : ModuleDefId → ℕ
def_number (def.ModuleId m) = m.0
def_number (def.FunctionId x) = x.0
def_number (def.AdtId (adt.StructId s)) = s.0
def_number (def.AdtId (adt.UnionId u)) = u.0
def_number (def.AdtId (adt.EnumId e)) = e.0
def_number (def.EnumVariantId x) = x.0
def_number (def.ConstId c) = c.0
def_number (def.StaticId s) = s.0
def_number (def.TraitId t) = t.0
def_number (def.TypeAliasId t) = t.0
def_number (def.BuiltinType b) = (name_of b).0
def_number (def.MacroId m) = m.0

abbrev pub visibility_text : Visibility → List ℕ
visibility_text Public = codes "pub"
visibility_text (PubCrate c) = codes "crate:" ++ decimal c.0
visibility_text (Module m Explicit) = codes "in:" ++ decimal m.0 ++ codes ":e"
visibility_text (Module m Implicit) = codes "in:" ++ decimal m.0 ++ codes ":i"

abbrev pub import_text : Option ImportOrExternCrate → List ℕ
import_text None = codes "-"
import_text (Some (wide.Glob g)) = codes "glob:" ++ decimal g.0
import_text (Some (wide.Import i)) = codes "import:" ++ decimal i.0
import_text (Some (wide.ExternCrate x)) = codes "extern:" ++ decimal x.0

abbrev pub entry_text : Option Types → List ℕ
entry_text None = codes "-"
entry_text (Some it) =
    def_kind it.def ++ codes ":" ++ decimal (def_number it.def) ++ codes "," ++ visibility_text it.vis ++ codes "," ++ import_text it.import

abbrev pub entries_text : PerNs → List ℕ
entries_text e =
    entry_text e.types ++ codes " " ++ entry_text (option_map value_entry e.values) ++ codes " " ++ entry_text (option_map macro_entry e.macros)
