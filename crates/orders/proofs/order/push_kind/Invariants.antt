use Rattle.std.proofs.Common.{◌≡◌, ◌+◌, ◌≤◌, ◌++◌, length, drop, vec_len, vec_capacity}
use Rattle.orders.specs.Orders.{of_kind}
use Rattle.orders.proofs.order.push_kind.Given as goal

-- what is still to come fits, and makes the whole with what came
abbrev pub invariant-loop-call : goal.invariant-loop-call
invariant-loop-call l =
    let rest = of_kind l.by_glob (drop l.call-index l.calls) in
    record {
      items : l.list.items ++ rest ≡ l.fn.list.items ++ of_kind l.by_glob l.calls;
      len : vec_len l.list + length rest ≡ vec_len l.fn.list + length (of_kind l.by_glob l.calls);
      room : vec_len l.list + length rest ≤ vec_capacity l.list;
      kept : vec_capacity l.fn.list ≤ vec_capacity l.list;
    }
