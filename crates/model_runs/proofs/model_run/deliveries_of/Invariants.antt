use Rattle.std.proofs.Common.{◌≡◌, map, take, vec_items}
use Rattle.model_runs.proofs.model_run.deliveries_of.Given as goal

abbrev pub invariant-loop-statement : goal.invariant-loop-statement
invariant-loop-statement l = vec_items l.deliveries ≡ map (λ s. s.delivery) (take l.statement-index l.statements)
