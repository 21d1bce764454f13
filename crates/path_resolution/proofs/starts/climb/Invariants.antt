use Rattle.std.proofs.Common.{◌≡◌, ◌-◌}
use Rattle.path_resolution.specs.Starts.{climbed}
use Rattle.path_resolution.proofs.starts.climb.Given as goal

-- the climbs that are left lead where all of them do
abbrev pub invariant-loop-step : goal.invariant-loop-step
invariant-loop-step g l =
    let t = g.T.Tree.shape l.tree in
    climbed t (l.level - l._step) l.here ≡ climbed t l.level l.fn.from
