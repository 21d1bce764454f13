use Rattle.runs.proofs.Laws.{order-tried, chain-tried, hidden-tried}
use Rattle.runs.proofs.compare.compare_runs.Goals as goal

pub returns-clause-order : goal.returns-clause-order
returns-clause-order g c = order-tried c.run_and_ask.ensures.tried c.run_and_ask-2.ensures.tried

pub returns-clause-chain : goal.returns-clause-chain
returns-clause-chain g c =
    let a = c.args.first.now in
    let b = c.args.second.now in (
      chain-tried _ _ (g.met.I.Tree.ruled a) (g.met.I.Index.tied a) c.run_and_ask.ensures.tried,
      chain-tried _ _ (g.met.J.Tree.ruled b) (g.met.J.Index.tied b) c.run_and_ask-2.ensures.tried,
    )

pub returns-clause-hidden : goal.returns-clause-hidden
returns-clause-hidden g c =
    let a = c.args.first.now in
    let b = c.args.second.now in (
      hidden-tried _ _ (g.met.I.Tree.ruled a) (g.met.I.Index.tied a) c.run_and_ask.ensures.tried,
      hidden-tried _ _ (g.met.J.Tree.ruled b) (g.met.J.Index.tied b) c.run_and_ask-2.ensures.tried,
    )
