use Rattle.std.proofs.Common.{◌≡◌, ◌≤◌, length, take, vec_items, vec_len, vec_capacity}
use Rattle.firmware.specs.Deliveries.{Ran, Made}
use Rattle.firmware.proofs.deliveries.deliver_all.Given as goal

abbrev pub invariant-loop-statement : goal.invariant-loop-statement
invariant-loop-statement g l =
    let view = g.I.Index.view in
    let left = g.I.Index.left in
    record {
      ran : Ran (view l.fn.index) (left l.fn.index) (take l.statement-index l.statements) (vec_items l.outcomes) (view l.index) (left l.index);
      made : Made g.I.Recipient.delivers l.fn.index (vec_items l.outcomes) l.index;
      len : vec_len l.outcomes ≡ l.statement-index;
      room : length l.statements ≤ vec_capacity l.outcomes;
    }
