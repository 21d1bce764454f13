use Rattle.std.proofs.Common.{◌≡◌, ◌∙◌, ap, map, List}
use Rattle.firmware.specs.declared.file.DeliveryStatement.{DeliveryStatement}
use Rattle.item_scope.specs.declared.delivery.Delivery.{Delivery}
use Rattle.runs.specs.declared.calls.Call.{Call}
use Rattle.model_runs.specs.Calls.{outcomes_of}
use Rattle.model_runs.proofs.Modelling.{over, stands, runs_over, compares, names_one}
use Rattle.model_runs.proofs.model_run.make_model.Goals as goal

pub returns-clause-run : goal.returns-clause-run
returns-clause-run g c =
    let p = c.as_slice.ensures.value in
    let q = c.in_ok-deliveries.ensures in
    let ss = c.args.statements.now in
    let o = c.in_ok-orders.ensures in
    let e : c.as_slice.result.now ≡ map {A = DeliveryStatement} {B = Delivery} (λ s. s.delivery) ss = cc in
    let h = c.in_ok-outcomes.ensures ∙ ap (λ (cs : List Call). outcomes_of ss cs) c.as_slice-2.ensures.value in
    let one = over _ _ _ c.nothing.ensures _ (record { own = c.new-first.ensures.own; below = c.new-first.ensures.below }) o.made_first in
    runs_over _ ss _ e _ o.first.calls _ one _ h

pub returns-clause-compared : goal.returns-clause-compared
returns-clause-compared g c =
    let p = c.as_slice.ensures.value in
    let q = c.in_ok-deliveries.ensures in
    let ss = c.args.statements.now in
    let o = c.in_ok-orders.ensures in
    let e : c.as_slice.result.now ≡ map {A = DeliveryStatement} {B = Delivery} (λ s. s.delivery) ss = cc in
    let h = c.in_ok-outcomes.ensures ∙ ap (λ (cs : List Call). outcomes_of ss cs) c.as_slice-2.ensures.value in
    let one = over _ _ _ c.nothing.ensures _ (record { own = c.new-first.ensures.own; below = c.new-first.ensures.below }) o.made_first in
    let two = over _ _ _ c.nothing.ensures _ (record { own = c.new-second.ensures.own; below = c.new-second.ensures.below }) o.made_second in
    compares _ ss _ e _ o.first.calls _ one _ _ _ _ _ _ _ c.new-first.ensures.view c.new-second.ensures.view o.second.calls _ two o.agreement o.agree _ h

pub returns-clause-below : goal.returns-clause-below
returns-clause-below g c =
    let o = c.in_ok-orders.ensures in (
      stands _ _ _ c.nothing.ensures _ (record { own = c.new-first.ensures.own; below = c.new-first.ensures.below }) o.made_first,
      stands _ _ _ c.nothing.ensures _ (record { own = c.new-second.ensures.own; below = c.new-second.ensures.below }) o.made_second,
    )

pub returns-clause-within : goal.returns-clause-within
returns-clause-within g c =
    let p = c.as_slice.ensures.value in
    let q = c.in_ok-deliveries.ensures in
    let ss = c.args.statements.now in
    let o = c.in_ok-orders.ensures in
    let e : c.as_slice.result.now ≡ map {A = DeliveryStatement} {B = Delivery} (λ s. s.delivery) ss = cc in
    let one = over _ _ _ c.nothing.ensures _ (record { own = c.new-first.ensures.own; below = c.new-first.ensures.below }) o.made_first in
    names_one _ ss _ e _ o.first.calls _ one _ _ _ o.agreement
