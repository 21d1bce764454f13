use Rattle.std.proofs.Common.{◌≡◌, take, vec_items}
use Rattle.std.specs.Prelude.{filter}
use Rattle.model_wording.specs.Comparing.{is_by_name}
use Rattle.model_wording.proofs.comparison.by_name.Given as goal

abbrev pub invariant-loop-statement : goal.invariant-loop-statement
invariant-loop-statement l = vec_items l.names ≡ filter is_by_name (take l.statement-index l.statements)
