use Rattle.std.proofs.Common.{arith}
use Rattle.orders.proofs.Reordered.{both_kinds}
use Rattle.orders.proofs.order.fill.Goals as goal

pub push_kind-requires : goal.push_kind-requires
push_kind-requires c = omega (arith, both_kinds c.eq-globs_first.result c.args.calls.now)

pub push_kind-requires-2 : goal.push_kind-requires-2
push_kind-requires-2 c = omega (arith, both_kinds c.eq-globs_first.result c.args.calls.now)
