use Rattle.std.proofs.Common.{List, rules, subst}
use Rattle.std.proofs.lemmas.Fn.{dedup_same}
use Rattle.std.proofs.lemmas.List.Sorted.{answers_always}
use Rattle.firmware.specs.declared.file.DeliveryStatement.{DeliveryStatement}
use Rattle.reports.specs.Receiving.{Receiving, same_place}
use Rattle.reports.proofs.Receiving.{receiving}
use Rattle.reports.proofs.place_report.receiving.Goals as goal

pub returns : goal.returns
returns c =
    let sorted = c.in_ok-sort_by_key.ensures.sorted (λ s. (s.delivery.receiver.0, s.delivery.name.0)) (answers_always _ _ _ (λ f a r g h. search rules)) in
    let kept = dedup_same _ same_place _ (λ x y b f' x' y' k. search rules) _ _ c.dedup_by_key.ensures.filtered in
    let P : List DeliveryStatement → Type 0 = λ l. Receiving l c.dedup_by_key.new.self.items in
    subst P c.in_ok-sorted.ensures.items (receiving _ _ _ c.sort_by_key.ensures.permutation sorted kept)
