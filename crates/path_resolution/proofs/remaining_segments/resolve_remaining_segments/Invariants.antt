use Rattle.std.proofs.Common.{◌≡◌, ◌+◌, drop}
use Rattle.path_resolution.specs.Walks.{sight, walk_of}
use Rattle.path_resolution.proofs.remaining_segments.resolve_remaining_segments.Given as goal

-- what is left of the walk comes to the whole of it
abbrev pub invariant-loop-k : goal.invariant-loop-k
invariant-loop-k g l =
    let v = g.I.Index.view l.index in
    walk_of (sight v l.judge) l.at (l.first + l.k) (drop l.k l.names) ≡ walk_of (sight v l.judge) l.fn.at l.first l.names
