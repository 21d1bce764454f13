-- What the deliveries of a file make of an index, one after the other.
use Rattle.std.specs.Prelude.{◌≡◌, ℕ, Bool, List, [], ◌∷◌, Result}
use Rattle.hir_def.specs.declared.fault.IndexFault.{IndexFault}
use Rattle.item_scope.specs.declared.delivery.Delivery.{Delivery}
use Rattle.item_scope.specs.InTurn.{InTurn}
use Rattle.item_scope.specs.Views.{View}
use Rattle.item_scope.specs.Deliveries.{Takes}
use Rattle.firmware.specs.declared.file.DeliveryStatement.{DeliveryStatement}
use Rattle.firmware.specs.declared.deliveries.Outcome.{Outcome}

-- each delivery is answered as an index answers it that tells what those before it made, and has as many rows left
abbrev pub Ran : View → ℕ → List DeliveryStatement → List Outcome → View → ℕ → Type 0
Ran v left [] [] v' left' = (v' ≡ v) × (left' ≡ left)
Ran v left [] (o ∷ os) v' left' = ⊥
Ran v left (s ∷ ss) [] v' left' = ⊥
Ran v left (s ∷ ss) (o ∷ os) v' left' =
    (o.statement ≡ s) × ((w : View) × ((l : ℕ) × (Takes v left s.delivery o.result w l × Ran w l ss os v' left')))

-- the deliveries made the one index of the other, by its own rule of a delivery
abbrev pub Made : {I : Type 0} → (I → Delivery → Result Bool IndexFault → I → Type 0) → I → List Outcome → I → Type 0
Made Delivers = InTurn (λ x o y. Delivers x o.statement.delivery o.result y)
