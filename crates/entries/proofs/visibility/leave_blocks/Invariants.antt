use Rattle.std.proofs.Common.{◌≡◌}
use Rattle.entries.specs.Visibilities.{settled}
use Rattle.entries.proofs.visibility.leave_blocks.Given as goal

abbrev pub invariant-loop-outside : goal.invariant-loop-outside
invariant-loop-outside g l = let t = g.T.Tree.shape l.tree in settled t l.here ≡ settled t l.initial.here

abbrev pub decreases-loop-outside : goal.decreases-loop-outside
decreases-loop-outside g l = g.T.Tree.rank l.tree l.here
