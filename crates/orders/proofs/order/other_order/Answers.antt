use Rattle.std.proofs.Common.{◌≡◌, true, false, rules}
use Rattle.orders.specs.Orders.{names_first}
use Rattle.orders.proofs.Reordered.{is-real-names, is-real-globs}
use Rattle.orders.proofs.order.other_order.Goals as goal

pub returns-then-names_first-clause-real : goal.returns-then-names_first-clause-real
returns-then-names_first-clause-real c = let h : names_first c.args.calls.now ≡ true = search rules in is-real-globs c.args.calls.now h

pub returns-else-names_first-clause-real : goal.returns-else-names_first-clause-real
returns-else-names_first-clause-real c = let h : names_first c.args.calls.now ≡ false = search rules in is-real-names c.args.calls.now h
