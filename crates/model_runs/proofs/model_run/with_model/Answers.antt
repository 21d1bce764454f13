use Rattle.model_runs.proofs.Modelling.{is_made, stands_over}
use Rattle.model_runs.proofs.model_run.with_model.Goals as goal

pub returns-clause-made : goal.returns-clause-made
returns-clause-made g c =
    let o = c.in_ok-_outcomes.ensures in
    is_made _ _ _ _ c.deliveries_of-statements.ensures (record { own = c.new-variant.ensures.own; below = c.new-variant.ensures.below }) o.ran o.made

pub returns-clause-below : goal.returns-clause-below
returns-clause-below g c = stands_over _ _ (record { own = c.new-variant.ensures.own; below = c.new-variant.ensures.below }) c.in_ok-_outcomes.ensures.made
