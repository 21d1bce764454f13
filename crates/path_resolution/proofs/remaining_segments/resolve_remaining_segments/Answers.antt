use Rattle.std.proofs.Common.{◌∙◌}
use Rattle.path_resolution.proofs.Walking.{walk-turn, walk-end}
use Rattle.path_resolution.proofs.remaining_segments.resolve_remaining_segments.Goals as goal

pub loop-k-preserved : goal.loop-k-preserved
loop-k-preserved g c = walk-turn _ _ _ _ _ _ _ c.loop-k-test.true c.in-On.ensures ∙ c.loop-k.invariant

pub returns-in-Done : goal.returns-in-Done
returns-in-Done g c = walk-turn _ _ _ _ _ _ _ c.loop-k-test.true c.in-Done.ensures ∙ c.loop-k.invariant

pub returns : goal.returns
returns g c = c.whole.ensures ∙ walk-end _ _ _ _ _ c.loop-k-test.false ∙ c.loop-k.invariant
