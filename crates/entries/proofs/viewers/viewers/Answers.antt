use Rattle.entries.proofs.Viewed.{lists}
use Rattle.entries.proofs.viewers.viewers.Goals as goal

pub returns-clause-lists : goal.returns-clause-lists
returns-clause-lists g c = rw c.in_ok-seeing.ensures (lists _ _ (g.met.T.Tree.ruled c.args.tree.now) c.args.vis)
