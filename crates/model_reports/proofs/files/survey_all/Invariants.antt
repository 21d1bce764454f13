use Rattle.std.proofs.Common.{take, vec_items}
use Rattle.model_reports.specs.Files.{AreTaken}
use Rattle.model_reports.proofs.files.survey_all.Given as goal

-- those so far are taken
abbrev pub invariant-loop-one : goal.invariant-loop-one
invariant-loop-one l = AreTaken (take l.one-index l.read) (vec_items l.surveys)
