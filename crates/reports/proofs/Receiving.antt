-- What is left of sorted statements where each place stands once.
use Rattle.std.proofs.Common.{◌≡◌, ◌==◌, ◌&&◌, List, sym, subst, ap, ◌∙◌}
use Rattle.std.specs.Cmp.{IsTotalOrder, IsEquivalence, tied_then, unsigned_ties}
use Rattle.std.specs.Ordering.{nat_cmp, eq_by_cmp}
use Rattle.std.specs.List.{dedup}
use Rattle.std.specs.List.Sorted.{IsPermutation, IsSorted}
use Rattle.std.proofs.lemmas.Cmp.{nat_cmp_total, on_total, then_total, eq_by_cmp_equiv}
use Rattle.std.proofs.lemmas.List.Kept.{Contains-from_dedup, Any-dedup, IsStrictlySortedBy-dedup}
use Rattle.std.proofs.lemmas.List.Sorted.{Contains-permutation, IsPermutation-sym}
use Rattle.firmware.specs.declared.file.DeliveryStatement.{DeliveryStatement}
use Rattle.reports.specs.Receiving.{place_cmp, same_place, Receiving}

total : IsTotalOrder place_cmp
total = then_total (on_total (λ (s : DeliveryStatement). s.delivery.receiver.0) nat_cmp_total) (on_total (λ (s : DeliveryStatement). s.delivery.name.0) nat_cmp_total)

ties : (s t : DeliveryStatement) → same_place s t ≡ eq_by_cmp place_cmp s t
ties s t =
    ap (λ b. b && s.delivery.name.0 == t.delivery.name.0) (unsigned_ties s.delivery.receiver.0 t.delivery.receiver.0)
    ∙ ap (λ b. eq_by_cmp nat_cmp s.delivery.receiver.0 t.delivery.receiver.0 && b) (unsigned_ties s.delivery.name.0 t.delivery.name.0)
    ∙ tied_then (nat_cmp s.delivery.receiver.0 t.delivery.receiver.0) (nat_cmp s.delivery.name.0 t.delivery.name.0)

alike : IsEquivalence same_place
alike =
    let e = eq_by_cmp_equiv total in
    record {
      refl = λ x. ties x x ∙ e.refl x;
      symm = λ x y. ties x y ∙ e.symm x y ∙ sym (ties y x);
      congr = λ x y z h. ties x z ∙ e.congr x y z (sym (ties x y) ∙ h) ∙ sym (ties y z);
    }

pub receiving : (ss zs rs : List DeliveryStatement) → IsPermutation ss zs → IsSorted place_cmp zs → rs ≡ dedup same_place zs → Receiving ss rs
receiving ss zs rs p h e =
    let P : List DeliveryStatement → Type 0 = λ l. Receiving ss l in
    subst P (sym e) (record {
      from = λ s k. Contains-permutation zs ss s (IsPermutation-sym ss zs p) (Contains-from_dedup same_place zs s k);
      each = λ s k. Any-dedup alike zs s (Contains-permutation ss zs s p k);
      order = IsStrictlySortedBy-dedup total ties zs h;
    })
