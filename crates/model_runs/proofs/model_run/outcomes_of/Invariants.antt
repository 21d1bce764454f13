use Rattle.std.proofs.Common.{◌≡◌, take, vec_items}
use Rattle.model_runs.specs.Calls.{outcomes_of}
use Rattle.model_runs.proofs.model_run.outcomes_of.Given as goal

abbrev pub invariant-loop-i : goal.invariant-loop-i
invariant-loop-i l = vec_items l.outcomes ≡ outcomes_of (take l.i l.statements) l.calls
