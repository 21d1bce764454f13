-- The places to which the statements of a file deliver.
use Rattle.std.specs.Prelude.{◌≡◌, ◌==◌, ◌&&◌, Bool, true, List, Any, Contains}
use Rattle.std.specs.declared.cmp.Ordering.{Ordering}
use Rattle.std.specs.Ordering.{nat_cmp, ordering_then}
use Rattle.std.specs.List.Sorted.{IsStrictlySortedBy}
use Rattle.firmware.specs.declared.file.DeliveryStatement.{DeliveryStatement}

-- by modules, and in a module by names
abbrev pub place_cmp : DeliveryStatement → DeliveryStatement → Ordering
place_cmp s t = ordering_then (nat_cmp s.delivery.receiver.0 t.delivery.receiver.0) (nat_cmp s.delivery.name.0 t.delivery.name.0)

abbrev pub same_place : DeliveryStatement → DeliveryStatement → Bool
same_place s t = s.delivery.receiver.0 == t.delivery.receiver.0 && s.delivery.name.0 == t.delivery.name.0

-- one statement for each place to which any delivers, in the order of the places
pub record Receiving (statements firsts : List DeliveryStatement) : Type 0 where
  pub from : (s : DeliveryStatement) → Contains firsts s → Contains statements s
  pub each : (s : DeliveryStatement) → Contains statements s → Any (λ t. same_place s t ≡ true) firsts
  pub order : IsStrictlySortedBy place_cmp firsts
