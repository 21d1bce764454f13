use Rattle.std.proofs.Common.{◌≡◌}
use Rattle.nameres.specs.Shapes.{block_exit}
use Rattle.path_resolution.specs.Outward.{outward}
use Rattle.path_resolution.proofs.Going.{rest}
use Rattle.path_resolution.proofs.path_resolution.resolve_outward.Given as goal

-- what is still asked comes to the whole answer
abbrev pub invariant-outward : goal.invariant-outward
invariant-outward g l =
    let v = g.I.Index.view l.index in
    rest v l.question l.kind l.names l.asked l.here (block_exit (g.I.Tree.shape l.index) l.here) ≡ outward v l.question l.kind l.names l.question.original_module

abbrev pub decreases-outward : goal.decreases-outward
decreases-outward g l = g.I.Tree.rank l.index l.here
