-- What is written of a place and of a delivery.
use Rattle.std.specs.Prelude.{ℕ, Bool, true, false, List, [], ◌∷◌, ◌++◌, Option, Some, None, codes, decimal}
use Rattle.hir_def.specs.declared.AdtId.TheVariants as adt
use Rattle.hir_def.specs.declared.ModuleDefId.{ModuleDefId}
use Rattle.hir_def.specs.declared.ModuleDefId.TheVariants as def
use Rattle.hir_def.specs.declared.Namespace.{Namespace}
use Rattle.hir_def.specs.declared.Namespace.TheVariants as namespace
use Rattle.hir_def.specs.declared.fault.FaultCode.{FaultCode}
use Rattle.hir_def.specs.Builtins.{name_of, text_at}
use Rattle.hir_def.specs.FaultTexts.{code_text}
use Rattle.firmware.specs.declared.definition.Definition.{Definition}
use Rattle.firmware.specs.declared.file.DeliveryStatement.{DeliveryStatement}
use Rattle.wording.specs.declared.holders.Holder.{Holder}
use Rattle.wording.specs.declared.holders.Told.{Told}
use Rattle.wording.specs.Shown.{visibility_text}

abbrev pub kind_word : ModuleDefId → List ℕ
kind_word (def.ModuleId m) = codes "module"
kind_word (def.FunctionId x) = codes "fn"
kind_word (def.AdtId (adt.StructId s)) = codes "struct"
kind_word (def.AdtId (adt.UnionId u)) = codes "union"
kind_word (def.AdtId (adt.EnumId e)) = codes "enum"
kind_word (def.EnumVariantId x) = codes "variant"
kind_word (def.ConstId c) = codes "const"
kind_word (def.StaticId s) = codes "static"
kind_word (def.TraitId t) = codes "trait"
kind_word (def.TypeAliasId t) = codes "type"
kind_word (def.BuiltinType b) = codes "builtin"
kind_word (def.MacroId m) = codes "macro"

abbrev pub namespace_word : Namespace → List ℕ
namespace_word namespace.Types = codes "types"
namespace_word namespace.Values = codes "values"
namespace_word namespace.Macros = codes "macros"

abbrev pub by_word : Bool → List ℕ
by_word true = codes "name"
by_word false = codes "glob"

-- the name of a built-in type
abbrev pub builtin_text : ModuleDefId → List ℕ
builtin_text (def.BuiltinType b) = text_at (name_of b)
builtin_text (def.ModuleId m) = codes "-"
builtin_text (def.FunctionId x) = codes "-"
builtin_text (def.AdtId a) = codes "-"
builtin_text (def.EnumVariantId x) = codes "-"
builtin_text (def.ConstId c) = codes "-"
builtin_text (def.StaticId s) = codes "-"
builtin_text (def.TraitId t) = codes "-"
builtin_text (def.TypeAliasId t) = codes "-"
builtin_text (def.MacroId m) = codes "-"

-- a name after what is around it, if anything is
abbrev full_name : List ℕ → List ℕ → List ℕ
full_name [] name = name
full_name (b ∷ bs) name = (b ∷ bs) ++ codes "::" ++ name

abbrev told_as : ModuleDefId → Option Definition → List ℕ
told_as d None = builtin_text d
told_as d (Some s) = full_name s.within.now s.name.now

abbrev pub told_text : Told → List ℕ
told_text t = told_as t.def t.definition

abbrev pub line_text : Option ℕ → List ℕ
line_text None = codes "-"
line_text (Some n) = decimal n

abbrev pub holder_told : List (List ℕ) → Namespace → Holder → List ℕ
holder_told names s h =
    codes "    " ++ namespace_word s ++ codes ": " ++ kind_word h.told.def ++ codes " " ++ told_text h.told ++ codes ", " ++ visibility_text names h.vis
    ++ codes ", by " ++ by_word h.by_name ++ codes " in line " ++ line_text h.line ++ codes "\n"

abbrev pub place_text : List ℕ → List ℕ → Namespace → List ℕ
place_text name m s = name ++ codes " " ++ m ++ codes " " ++ namespace_word s

abbrev pub holder_text : Holder → List ℕ
holder_text h = kind_word h.told.def ++ codes " " ++ told_text h.told ++ codes " " ++ by_word h.by_name ++ codes " " ++ line_text h.line

abbrev pub place_line : List ℕ → List ℕ → Namespace → Holder → List ℕ
place_line name m s h = codes "place " ++ place_text name m s ++ codes " " ++ holder_text h ++ codes "\n"

abbrev pub delivery_told : DeliveryStatement → List ℕ
delivery_told d = codes "delivery of " ++ d.name.now ++ codes " to " ++ d.«module».now ++ codes " in line " ++ decimal d.line

abbrev pub delivery_line : DeliveryStatement → FaultCode → List ℕ
delivery_line d c = codes "refused-delivery " ++ d.name.now ++ codes " " ++ d.«module».now ++ codes " " ++ decimal d.line ++ codes " " ++ code_text c
