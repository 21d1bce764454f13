-- A delivery leaves alone what an index tells beside its places.
use Rattle.std.proofs.Common.{◌≡◌, ℕ, Bool, true, false, refl, ap, ◌∙◌, if◌then◌else◌}
use Rattle.std.specs.Prelude.{is_ok, Result}
use Rattle.hir_def.specs.declared.fault.IndexFault.{IndexFault}
use Rattle.item_scope.specs.declared.delivery.Delivery.{Delivery}
use Rattle.item_scope.specs.Views.{View}
use Rattle.item_scope.specs.Deliveries.{Takes, delivered}

either : (b : Bool) (v : View) (d : Delivery) → (if b then delivered v d else v).fixed.names ≡ v.fixed.names
either true v d = refl
either false v d = refl

pub names : (v : View) (left : ℕ) (d : Delivery) (r : Result Bool IndexFault) (v' : View) (left' : ℕ) → Takes v left d r v' left' → v'.fixed.names ≡ v.fixed.names
names v left d r v' left' t = ap (λ x. x.fixed.names) t.after ∙ either (is_ok r) v d
