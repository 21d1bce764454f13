-- What is written of the answer to a path as JSON. The members are in the order of their names.
use Rattle.std.specs.Prelude.{ℕ, Bool, List, Some, None, Option, codes}
use Rattle.std.specs.List.{slice_get}
use Rattle.hir_def.specs.declared.Name.{Name}
use Rattle.hir_def.specs.declared.Namespace.TheVariants.{Types, Values, Macros}
use Rattle.hir_def.specs.declared.fault.FaultCode.{FaultCode}
use Rattle.hir_def.specs.FaultTexts.{layer_text}
use Rattle.entries.specs.declared.per_ns.PerNs.{PerNs}
use Rattle.path_resolution.specs.declared.answer.ResolvePathResult.{ResolvePathResult}
use Rattle.path_resolution.specs.declared.question.Question.{Question}
use Rattle.firmware.specs.declared.definitions.Definitions.{Definitions}
use Rattle.serde_json.specs.Data.{Data, null, boolean, number, unsigned, string, object, member, no_members}
use Rattle.wording.specs.declared.holders.Holder.{Holder}
use Rattle.wording.specs.Answers.{mode_word, shadow_word, macro_word, status_word}
use Rattle.wording.specs.Holders.{entry_at}
use Rattle.report_json.specs.Json.{name_data}
use Rattle.report_json.specs.PlaceJson.{line_data}
use Rattle.wording.specs.Places.{kind_word, by_word, told_text}
use Rattle.wording.specs.Shown.{module_text, visibility_text}

abbrev pub entry_data : List ℕ → List ℕ → List ℕ → List ℕ → Data → Data
entry_data def kind vis by line = object
    (member (codes "by") (string by)
    (member (codes "def") (string def)
    (member (codes "def_kind") (string kind)
    (member (codes "line") line
    (member (codes "visibility") (string vis) no_members)))))

-- an entry, if there is one
abbrev pub entry_told : List (List ℕ) → Option Holder → Data
entry_told names None = null
entry_told names (Some h) = entry_data (told_text h.told) (kind_word h.told.def) (visibility_text names h.vis) (by_word h.by_name) (line_data h.line)

abbrev pub entries_data : Data → Data → Data → Data
entries_data types values macros = object
    (member (codes "macros") macros
    (member (codes "types") types
    (member (codes "values") values no_members)))

abbrev pub question_data : List ℕ → List ℕ → List ℕ → List ℕ → Data
question_data from mode shadow expected = object
    (member (codes "from") (string from)
    (member (codes "macro") (string expected)
    (member (codes "mode") (string mode)
    (member (codes "shadow") (string shadow) no_members))))

abbrev pub flags_data : Bool → Bool → Data
flags_data differing_crate enum_variant = object
    (member (codes "differing_crate") (boolean differing_crate)
    (member (codes "enum_variant") (boolean enum_variant) no_members))

abbrev pub answer_data : Data → Data → List ℕ → Data → Data → Data → Data
answer_data question entries status index name flags = object
    (member (codes "entries") entries
    (member (codes "flags") flags
    (member (codes "index") index
    (member (codes "kind") (string (codes "answer"))
    (member (codes "name") name
    (member (codes "question") question
    (member (codes "status") (string status) no_members)))))))

-- the entries of an answer by the statements of a file
abbrev pub entries_told : List (List ℕ) → Definitions → PerNs → Data
entries_told names f e = entries_data (entry_told names (entry_at f e Types)) (entry_told names (entry_at f e Values)) (entry_told names (entry_at f e Macros))

abbrev pub question_told : List (List ℕ) → Question → Data
question_told names q = question_data (module_text names q.original_module) (mode_word q.mode) (shadow_word q.shadow) (macro_word q.expected_macro_subns)

-- a name of the path, if there is one
abbrev pub found_data : List (List ℕ) → Option Name → Data
found_data ls None = null
found_data ls (Some n) = name_data ls n

-- the first name that was not resolved, if one was not
abbrev pub stop_data : List (List ℕ) → List Name → Option ℕ → Data
stop_data ls path None = null
stop_data ls path (Some i) = found_data ls (slice_get path i)

-- what a path stands for where it is asked
abbrev pub answer_told : List (List ℕ) → Definitions → List (List ℕ) → List Name → Question → ResolvePathResult → Data
answer_told names f ls path q a =
    answer_data (question_told names q) (entries_told names f a.resolved_def) (status_word a.reached_fixedpoint) (line_data a.segment_index) (stop_data ls path a.segment_index)
    (flags_data a.prefix_info.differing_crate a.prefix_info.enum_variant)

-- why a path is not asked, with a sentence beside the refusal
abbrev pub refused_path_data : FaultCode → List ℕ → Data
refused_path_data code why = object
    (member (codes "kind") (string (codes "refused-path"))
    (member (codes "layer") (string (layer_text code.layer))
    (member (codes "number") (number (unsigned code.number))
    (member (codes "place") (number (unsigned code.place))
    (member (codes "why") (string why) no_members)))))
