use Rattle.std.proofs.Common.{sym}
use Rattle.std.specs.HashMap.{get}
use Rattle.hir_def.specs.contracts.ModuleDefIdPartialEq.TheImpl.{eq-value as same_def}
use Rattle.cuts.specs.Reached.{said}
use Rattle.cuts.proofs.Noting.{anew, stays}
use Rattle.cuts.proofs.reached.Reached.note.Goals as goal

pub returns-in_ok-insert : goal.returns-in_ok-insert
returns-in_ok-insert c =
    anew (said c.args.self.now) c.args.item c.args.reason (λ q. get same_def.it c.insert.new.self q) (sym c.if-not-contains_key.ensures) (λ q. c.in_ok-insert.ensures.updates.0 q)

pub returns-else-not-contains_key : goal.returns-else-not-contains_key
returns-else-not-contains_key c = stays (said c.args.self.now) c.args.item c.args.reason (sym c.if-not-contains_key.ensures)
