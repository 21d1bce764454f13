use Rattle.orders.proofs.Agreed.{agreement-law}
use Rattle.orders.proofs.compare.compare_lists.Goals as goal

pub returns-clause-agree : goal.returns-clause-agree
returns-clause-agree g c =
    let made = c.compare_runs-compared in
    agreement-law _ _ c.args.order c.args.given.now made.new.first_calls c.args.other.now made.new.second_calls c.compare_logs.result _ _
    c.requires.other made.ensures.first.calls made.ensures.second.calls
    c.compare_logs.ensures
    made.ensures.order
