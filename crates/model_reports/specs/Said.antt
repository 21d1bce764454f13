-- What is told of a path that a model asks.
use Rattle.std.specs.Prelude.{◌≡◌, ℕ, List, Ok, Err, Result, vec_items}
use Rattle.hir_def.specs.declared.fault.Fault.TheVariants as fault
use Rattle.hir_def.specs.declared.fault.PathFault.{PathFault}
use Rattle.hir_def.specs.Faults.{code_of}
use Rattle.serde_json.specs.View.{view}
use Rattle.cuts.specs.declared.asked.Ask.{Ask}
use Rattle.cuts.specs.declared.asked.Answered.{Answered}
use Rattle.firmware.specs.declared.survey.Survey.{Survey}
use Rattle.path_resolution.specs.declared.answer.ResolvePathResult.{ResolvePathResult}
use Rattle.report_json.specs.AnswerJson.{answer_told, refused_path_data}
use Rattle.wording.specs.Shown.{held}
use Rattle.model_wording.specs.declared.model_json.PathSaid.{PathSaid}
use Rattle.model_wording.specs.declared.model_json.PathSaid.TheVariants.{Answer, Refusal}

abbrev Says : Survey → Ask → Result ResolvePathResult PathFault → PathSaid → Type 0
Says s ask (Ok a) (Answer v) =
    let f = s.firmware.now in
    view v ≡ answer_told (held (vec_items f.names)) f.definitions s.list.now (vec_items ask.path.now.names) ask.question a
Says s ask (Ok a) (Refusal v) = ⊥
Says s ask (Err e) (Answer v) = ⊥
Says s ask (Err e) (Refusal v) = (why : List ℕ) × (view v ≡ refused_path_data (code_of (fault.Path e)) why)

-- the answer by the statements of the file, or the refusal with a sentence beside it
abbrev pub SaysOf : Survey → Answered → PathSaid → Type 0
SaysOf s a said = Says s a.ask a.result said
