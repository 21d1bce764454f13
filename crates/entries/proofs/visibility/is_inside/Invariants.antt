use Rattle.std.proofs.Common.{◌≡◌}
use Rattle.entries.specs.Visibilities.{inside}
use Rattle.entries.proofs.visibility.is_inside.Given as goal

abbrev pub invariant-loop-target : goal.invariant-loop-target
invariant-loop-target g l = let t = g.T.Tree.shape l.tree in inside t l.target l.here ≡ inside t l.target l.initial.here

abbrev pub decreases-loop-target : goal.decreases-loop-target
decreases-loop-target g l = g.T.Tree.rank l.tree l.here
