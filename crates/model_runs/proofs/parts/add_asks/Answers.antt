use Rattle.std.proofs.Common.{rules, ◌≡◌, ◌++◌, vec_items, [], ◌∷◌}
use Rattle.model_runs.specs.Parts.{asked_at}
use Rattle.model_runs.proofs.Asking.{pushed, passed}
use Rattle.model_runs.proofs.parts.add_asks.Goals.{in-Some+in_ok-push-in-Some, in-None}
use Rattle.model_runs.proofs.parts.add_asks.Goals as goal

pub loop-number-preserved : goal.loop-number-preserved
loop-number-preserved c =
    let looked = asked_at c.args.survey.now in
    let before = vec_items c.loop-number.asks in
    let after = vec_items c.match-ask_at.asks in
    let number = c.loop-number.number in
    let end = c.paths_of-start.result.end in
    elim c.match-ask_at.branch [
      | in-Some+in_ok-push-in-Some w ↦
          let n : after ≡ before ++ w.in-Some.ask ∷ [] = search rules in
          pushed looked before number end _ c.loop-number.invariant after w.in-Some.ask c.ask_at.result c.loop-number-test.true w.in-Some.is c.ask_at.ensures n
      | in-None w ↦
          let n : after ≡ before = search rules in
          passed looked before number end _ c.loop-number.invariant after c.ask_at.result c.loop-number-test.true w.in-None.is c.ask_at.ensures n
    ]
