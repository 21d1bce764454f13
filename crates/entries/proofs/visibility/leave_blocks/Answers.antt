use Rattle.std.proofs.Common.{sym, ◌∙◌}
use Rattle.entries.proofs.Climbs.{settled_here, settled-exit, exit-falls}
use Rattle.entries.proofs.Visible.{settles}
use Rattle.entries.proofs.visibility.leave_blocks.Goals as goal

pub loop-outside-smaller : goal.loop-outside-smaller
loop-outside-smaller g c = (exit-falls _ _ (g.met.T.Tree.ruled c.args.tree.now) _ _ c.in-Some.ensures.value).0

pub loop-outside-preserved : goal.loop-outside-preserved
loop-outside-preserved g c =
    settled-exit _ _ (g.met.T.Tree.ruled c.args.tree.now) _ _ c.in-Some.ensures.value ∙ c.loop-outside.invariant

pub returns-clause-value : goal.returns-clause-value
returns-clause-value g c = sym (settled_here _ _ c.in_default.ensures.value) ∙ c.loop-outside.invariant

pub returns-clause-means : goal.returns-clause-means
returns-clause-means g c =
    rw (sym (settled_here _ _ c.in_default.ensures.value) ∙ c.loop-outside.invariant) (settles _ _ (g.met.T.Tree.ruled c.args.tree.now) c.args.m)
