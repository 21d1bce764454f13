use Rattle.std.proofs.Common.{sym, ◌∙◌}
use Rattle.entries.proofs.Climbs.{inside-here, inside-up, inside-top}
use Rattle.entries.proofs.visibility.is_inside.Goals as goal

pub returns-then-eq : goal.returns-then-eq
returns-then-eq g c = sym (inside-here _ _ _ (sym c.if-eq.ensures)) ∙ c.loop-target.invariant

pub loop-target-preserved : goal.loop-target-preserved
loop-target-preserved g c =
    inside-up _ _ (g.met.T.Tree.ruled c.args.tree.now) _ _ _ (sym c.if-eq.ensures) c.in-Some.ensures.value ∙ c.loop-target.invariant

pub returns-in-None : goal.returns-in-None
returns-in-None g c = sym (inside-top _ _ _ (sym c.if-eq.ensures) c.in-None.ensures.value) ∙ c.loop-target.invariant
