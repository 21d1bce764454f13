use Rattle.std.proofs.Common.{◌≡◌, take, vec_items}
use Rattle.std.specs.Prelude.{filter}
use Rattle.model_wording.specs.Comparing.{is_by_glob}
use Rattle.model_wording.proofs.comparison.by_glob.Given as goal

abbrev pub invariant-loop-statement : goal.invariant-loop-statement
invariant-loop-statement l = vec_items l.globs ≡ filter is_by_glob (take l.statement-index l.statements)
