use Rattle.std.proofs.Common.{◌≡◌, take}
use Rattle.orders.specs.Orders.{calls_of}
use Rattle.orders.proofs.compare.calls.Given as goal

abbrev pub invariant-loop-delivery : goal.invariant-loop-delivery
invariant-loop-delivery l = l.list.items ≡ calls_of (take l.delivery-index l.deliveries)
