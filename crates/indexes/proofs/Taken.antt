-- A delivery that is not refused, and what its answer and the rows that it takes come to.
use Rattle.std.proofs.Common.{◌≡◌, ℕ, ◌+◌, ◌≤◌, Bool, true, false, if◌then◌else◌, Some, None, Ok, Option, refl, arith, nat_le}
use Rattle.std.specs.Option.{option_or}
use Rattle.std.proofs.lemmas.Bool.{leb-true}
use Rattle.hir_def.specs.declared.fault.IndexFault.{IndexFault}
use Rattle.item_scope.specs.declared.delivery.Delivery.{Delivery}
use Rattle.item_scope.specs.Views.{View}
use Rattle.item_scope.specs.Deliveries.{brought, count_of, filled, faulty, refused, delivered, any_changed, Takes}
use Rattle.indexes.specs.Spaces.{AllPlaces}
use Rattle.indexes.specs.Storing.{rows_for}
use Rattle.indexes.proofs.Stored.{row_within, count_map}

unrefused : (o : Option IndexFault) (enough : Bool) (f : IndexFault) → option_or o (if enough then None else Some f) ≡ None → (o ≡ None) × (enough ≡ true)
unrefused None true f e = (refl, refl)
unrefused None false f e = absurd (cc)
unrefused (Some g) enough f e = absurd (cc)

pub accepted : (v : View) (left : ℕ) (d : Delivery) → refused v left d ≡ None → (faulty v.fixed d ≡ None) × (filled d ≤ left)
accepted v left d e = let u = unrefused (faulty v.fixed d) (nat_le (filled d) left) _ e in (u.0, leb-true _ _ u.1)

-- no more rows than namespaces
pub within : (each : Bool) (p : AllPlaces) (d : Delivery) → rows_for each p d ≤ filled d
within each p d =
    let t = row_within each p.types d.receiver d.name (brought d).types in
    let v = row_within each p.values d.receiver d.name (brought d).values in
    let m = row_within each p.macros d.receiver d.name (brought d).macros in
    let ct : count_of (brought d).types ≡ count_of d.entries.types = count_map _ d.entries.types in
    let cv : count_of (brought d).values ≡ count_of d.entries.values = count_map _ d.entries.values in
    let cm : count_of (brought d).macros ≡ count_of d.entries.macros = count_map _ d.entries.macros in
    omega arith

pub takes : (v v' : View) (left left' : ℕ) (d : Delivery) (changed : Bool) (each : Bool) (p : AllPlaces) → refused v left d ≡ None → changed ≡ any_changed v d → v' ≡ delivered v d → left ≡ left' + rows_for each p d → Takes v left d (Ok changed) v' left'
takes v v' left left' d changed each p none is after falls =
    let w = within each p d in
    record { answers = rw (none, is) refl; after = after; falls = omega arith; spares = omega arith }
