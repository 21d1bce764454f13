-- What is known of who sees stays so, where one visibility more is looked up.
use Rattle.std.specs.HashMap.{get}
use Rattle.entries.specs.contracts.visibility.VisibilityPartialEq.TheImpl.{eq-value as same_visibility}
use Rattle.reports.proofs.Seeing.{one_more}
use Rattle.reports.proofs.sights.Sights.look.Goals as goal
use Rattle.reports.specs.Sights.{AreSeen}

pub returns-in_err-insert-clause-seen : goal.returns-in_err-insert-clause-seen
unfolding AreSeen
returns-in_err-insert-clause-seen g c old vis x h = let e = c.in_err-insert.ensures.err in old vis x (rw e at h)

pub returns-in_ok-insert-clause-seen : goal.returns-in_ok-insert-clause-seen
unfolding AreSeen
returns-in_ok-insert-clause-seen g c old =
    one_more (g.T.Tree.shape c.args.tree.now) c.args.self.now c.args.vis c.in_ok-seen.seen (λ q. get same_visibility.it c.insert.new.self q)
    old c.in_ok-seen.ensures c.in_ok-insert.ensures.updates.0
