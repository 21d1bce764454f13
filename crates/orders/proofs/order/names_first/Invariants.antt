use Rattle.std.proofs.Common.{◌≡◌, drop, if◌then◌else◌}
use Rattle.std.specs.List.{list_all}
use Rattle.orders.specs.Orders.{is_by_glob, names_first}
use Rattle.orders.proofs.order.names_first.Given as goal

-- what is still to come decides
abbrev pub invariant-loop-call : goal.invariant-loop-call
invariant-loop-call l =
    let rest = drop l.call-index l.calls in
    names_first l.calls ≡ (if l.globs then list_all is_by_glob rest else names_first rest)
