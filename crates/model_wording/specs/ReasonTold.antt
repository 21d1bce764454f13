-- What is written of why an item is kept.
use Rattle.std.specs.Prelude.{ℕ, List, [], ◌++◌, Option, Some, None, codes, option_map}
use Rattle.std.specs.Borrow.{Bor}
use Rattle.hir_def.specs.declared.ModuleDefId.{ModuleDefId}
use Rattle.hir_def.specs.declared.ModuleDefId.TheVariants as def
use Rattle.hir_def.specs.declared.Namespace.{Namespace}
use Rattle.firmware.specs.declared.definition.Definition.{Definition}
use Rattle.paths.specs.Told.{as_text}
use Rattle.wording.specs.declared.holders.Holder.{Holder}
use Rattle.wording.specs.Places.{by_word, line_text, namespace_word}
use Rattle.model_wording.specs.declared.reason_told.ReasonTold.{ReasonTold}

abbrev name_by : ModuleDefId → Option Definition → Option (Bor (List ℕ))
name_by (def.EnumVariantId v) s = option_map (λ d. d.name) s
name_by d s = None

-- the name of the variant that an entry stands for, if it is one
abbrev pub variant_name : Option Holder → Option (Bor (List ℕ))
variant_name None = None
variant_name (Some h) = name_by h.told.def h.told.definition

abbrev pub path_at : List ℕ → Option ℕ → List ℕ
path_at path line = codes "path " ++ as_text path ++ codes " in line " ++ line_text line

abbrev pub as_variant : Option (Bor (List ℕ)) → List ℕ
as_variant None = []
as_variant (Some name) = codes " as its variant " ++ name.now

abbrev pub through_told : Option Definition → List ℕ
through_told None = []
through_told (Some p) = codes " through " ++ p.name.now ++ codes " in " ++ p.within.now

abbrev pub by_told : Option Holder → List ℕ
by_told None = []
by_told (Some h) = codes ", by " ++ by_word h.by_name ++ codes " in line " ++ line_text h.line

abbrev pub entry_told : Namespace → Option Holder → Option Definition → List ℕ
entry_told s h p = namespace_word s ++ as_variant (variant_name h) ++ through_told p ++ by_told h

abbrev pub reason_told : ReasonTold → List ℕ
reason_told r = codes "    reached by " ++ path_at r.path.now r.line ++ codes ", in " ++ entry_told r.namespace r.holder r.place ++ codes "\n"

abbrev pub place_words : Option Definition → List ℕ
place_words None = codes "- -"
place_words (Some p) = p.name.now ++ codes " " ++ p.within.now

abbrev pub by_words : Option Holder → List ℕ
by_words None = codes "- -"
by_words (Some h) = by_word h.by_name ++ codes " " ++ line_text h.line

abbrev pub reason_words : ReasonTold → List ℕ
reason_words r = line_text r.line ++ codes " " ++ namespace_word r.namespace ++ codes " " ++ place_words r.place ++ codes " " ++ by_words r.holder
