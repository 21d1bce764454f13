use Rattle.std.proofs.Common.{◌≡◌, take, map, vec_items}
use Rattle.cuts.specs.Asked.{answered_by}
use Rattle.model_reports.proofs.results.answer_all.Given as goal

abbrev pub invariant-loop-ask : goal.invariant-loop-ask
invariant-loop-ask g l = vec_items l.answers ≡ map (answered_by (g.I.Index.view l.index)) (take l.ask-index l.asks)
