-- What is written of the answer to a path.
use Rattle.std.specs.Prelude.{ℕ, Bool, true, false, List, [], ◌++◌, Option, Some, None, codes, decimal}
use Rattle.std.specs.List.{slice_get}
use Rattle.hir_def.specs.declared.Name.{Name}
use Rattle.hir_def.specs.declared.Namespace.{Namespace}
use Rattle.hir_def.specs.declared.Namespace.TheVariants as namespace
use Rattle.path_resolution.specs.declared.answer.ReachedFixedPoint.{ReachedFixedPoint}
use Rattle.path_resolution.specs.declared.answer.ReachedFixedPoint.TheVariants.{Yes, No}
use Rattle.path_resolution.specs.declared.answer.ResolvePathResult.{ResolvePathResult}
use Rattle.path_resolution.specs.declared.question.Question.{Question}
use Rattle.path_resolution.specs.declared.question.ResolveMode.{ResolveMode}
use Rattle.path_resolution.specs.declared.question.ResolveMode.TheVariants as mode
use Rattle.path_resolution.specs.declared.question.BuiltinShadowMode.{BuiltinShadowMode}
use Rattle.path_resolution.specs.declared.question.BuiltinShadowMode.TheVariants as shadow
use Rattle.path_resolution.specs.declared.question.MacroSubNs.{MacroSubNs}
use Rattle.path_resolution.specs.declared.question.MacroSubNs.TheVariants.{Bang, Attr}
use Rattle.paths.specs.Told.{as_text}
use Rattle.wording.specs.declared.holders.Holder.{Holder}
use Rattle.wording.specs.Places.{kind_word, told_text, holder_told}
use Rattle.wording.specs.Shown.{module_text}

abbrev pub mode_word : ResolveMode → List ℕ
mode_word mode.Import = codes "import"
mode_word mode.Other = codes "other"

abbrev pub shadow_word : BuiltinShadowMode → List ℕ
shadow_word shadow.Module = codes "module"
shadow_word shadow.Other = codes "other"

abbrev pub macro_word : Option MacroSubNs → List ℕ
macro_word None = codes "-"
macro_word (Some Bang) = codes "bang"
macro_word (Some Attr) = codes "attribute"

abbrev pub status_word : ReachedFixedPoint → List ℕ
status_word Yes = codes "yes"
status_word No = codes "no"

abbrev pub flags_word : Bool → Bool → List ℕ
flags_word true true = codes "de"
flags_word true false = codes "d"
flags_word false true = codes "e"
flags_word false false = codes "-"

abbrev pub flags_told : Bool → Bool → List ℕ
flags_told true true = codes ", through another crate, a variant of its enum"
flags_told true false = codes ", through another crate"
flags_told false true = codes ", a variant of its enum"
flags_told false false = []

abbrev pub question_text : List (List ℕ) → Question → List ℕ
question_text names q =
    module_text names q.original_module ++ codes " " ++ mode_word q.mode ++ codes " " ++ shadow_word q.shadow ++ codes " " ++ macro_word q.expected_macro_subns

-- the options of a statement that are otherwise than without options
abbrev pub mode_told : ResolveMode → List ℕ
mode_told mode.Import = codes " mode=import"
mode_told mode.Other = []

abbrev pub shadow_told : BuiltinShadowMode → List ℕ
shadow_told shadow.Module = codes " shadow=module"
shadow_told shadow.Other = []

abbrev pub macro_told : Option MacroSubNs → List ℕ
macro_told None = []
macro_told (Some Bang) = codes " macro=bang"
macro_told (Some Attr) = codes " macro=attribute"

abbrev pub question_told : List (List ℕ) → Question → List ℕ
question_told names q = module_text names q.original_module ++ mode_told q.mode ++ shadow_told q.shadow ++ macro_told q.expected_macro_subns

abbrev line_of : Option (List ℕ) → List ℕ
line_of None = codes "-"
line_of (Some t) = as_text t

-- a name by the list, if there is one
abbrev pub name_text : List (List ℕ) → Option Name → List ℕ
name_text ls None = codes "-"
name_text ls (Some n) = line_of (slice_get ls n.0)

-- the first name that was not resolved, with its index in the path
abbrev pub stop_text : List (List ℕ) → List Name → Option ℕ → List ℕ
stop_text ls path None = codes "- -"
stop_text ls path (Some i) = decimal i ++ codes " " ++ name_text ls (slice_get path i)

abbrev pub stop_told : List (List ℕ) → List Name → Option ℕ → List ℕ
stop_told ls path None = []
stop_told ls path (Some i) = codes ", not resolved from index " ++ stop_text ls path (Some i)

abbrev pub answer_told : List (List ℕ) → List Name → ResolvePathResult → List ℕ
answer_told ls path a =
    codes "    status " ++ status_word a.reached_fixedpoint ++ stop_told ls path a.segment_index ++ flags_told a.prefix_info.differing_crate a.prefix_info.enum_variant ++ codes "\n"

abbrev pub entry_told : List (List ℕ) → Namespace → Option Holder → List ℕ
entry_told names s None = []
entry_told names s (Some h) = holder_told names s h

abbrev pub entries_told : List (List ℕ) → Option Holder → Option Holder → Option Holder → List ℕ
entries_told names types values macros =
    entry_told names namespace.Types types ++ entry_told names namespace.Values values ++ entry_told names namespace.Macros macros

abbrev pub entry_words : Option Holder → List ℕ
entry_words None = codes "- -"
entry_words (Some h) = kind_word h.told.def ++ codes " " ++ told_text h.told

abbrev pub entries_words : Option Holder → Option Holder → Option Holder → List ℕ
entries_words types values macros = entry_words types ++ codes " " ++ entry_words values ++ codes " " ++ entry_words macros

abbrev pub answer_words : List (List ℕ) → List Name → ResolvePathResult → List ℕ
answer_words ls path a =
    status_word a.reached_fixedpoint ++ codes " " ++ stop_text ls path a.segment_index ++ codes " " ++ flags_word a.prefix_info.differing_crate a.prefix_info.enum_variant

abbrev pub answer_line : List (List ℕ) → List (List ℕ) → List Name → Question → ResolvePathResult → Option Holder → Option Holder → Option Holder → List ℕ
answer_line names ls path q a types values macros =
    codes "answer " ++ question_text names q ++ codes " " ++ answer_words ls path a ++ codes " " ++ entries_words types values macros

-- the same for people: who asks, a line for each entry, and what else is answered
abbrev pub answer_report : List (List ℕ) → List (List ℕ) → List Name → Question → ResolvePathResult → Option Holder → Option Holder → Option Holder → List ℕ
answer_report names ls path q a types values macros =
    codes "    asked from " ++ question_told names q ++ codes "\n" ++ entries_told names types values macros ++ answer_told ls path a
