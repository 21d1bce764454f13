use Rattle.std.proofs.Common.{◌≡◌, map, take}
use Rattle.runs.specs.Runs.{state, Ran, Made, unmade}
use Rattle.runs.proofs.calls.run.Given as goal

-- the calls so far were made, and all calls are the same
abbrev pub invariant-loop-call : goal.invariant-loop-call
invariant-loop-call g l =
    let view = g.I.Index.view in
    let left = g.I.Index.left in
    record {
      ran : Ran (state (view l.fn.index) (left l.fn.index)) (take l.call-index l.calls) (state (view l.index) (left l.index));
      made : Made g.I.Recipient.delivers l.fn.index (take l.call-index l.calls) l.index;
      same : map unmade l.calls ≡ map unmade l.fn.calls;
    }
