-- The line of an answer.
use Rattle.std.specs.Prelude.{ℕ, Bool, true, false, List, ◌++◌, codes, decimal, Some, None, Option, vec_items}
use Rattle.hir_def.specs.Faults.{code_of}
use Rattle.hir_def.specs.FaultTexts.{code_text}
use Rattle.path_resolution.specs.declared.answer.ReachedFixedPoint.{ReachedFixedPoint}
use Rattle.path_resolution.specs.declared.answer.ReachedFixedPoint.TheVariants.{Yes, No}
use Rattle.path_resolution.specs.declared.answer.ResolvePathResult.{ResolvePathResult}
use Rattle.paths.specs.Shown.{path_words}
use Rattle.world_commands.specs.declared.answer.Answer.{Answer}
use Rattle.world_commands.specs.declared.answer.Answer.TheVariants.{Delivered, Asked, Place, Sight, Read, Left, Refused}
use Rattle.world_commands.specs.EntryTexts.{entries_text}

abbrev pub status_text : ReachedFixedPoint → List ℕ
status_text Yes = codes "yes"
status_text No = codes "no"

abbrev pub index_text : Option ℕ → List ℕ
index_text (Some i) = decimal i
index_text None = codes "-"

-- by whether another crate was asked, and whether the last name is a variant
abbrev pub flags_text : Bool → Bool → List ℕ
flags_text true true = codes "de"
flags_text true false = codes "d"
flags_text false true = codes "e"
flags_text false false = codes "-"

abbrev pub ask_text : ResolvePathResult → List ℕ
ask_text a =
    entries_text a.resolved_def ++ codes " " ++ status_text a.reached_fixedpoint ++ codes " "
    ++ index_text a.segment_index ++ codes " " ++ flags_text a.prefix_info.differing_crate a.prefix_info.enum_variant

abbrev pub answer_text : Answer → List ℕ
answer_text (Delivered true) = codes "deliver changed"
answer_text (Delivered false) = codes "deliver same"
answer_text (Asked a) = codes "ask " ++ ask_text a
answer_text (Place e) = codes "place " ++ entries_text e
answer_text (Sight true) = codes "sight 1 1"
answer_text (Sight false) = codes "sight 0 0"
answer_text (Read p) = codes "read " ++ path_words p.kind (vec_items p.names)
answer_text (Left n) = codes "left " ++ decimal n
answer_text (Refused f) = codes "refused " ++ code_text (code_of f)
