-- Where no other order is told, all statements are of one kind, by name or by glob; and the order that is told is the one that was given.
use Rattle.std.proofs.Common.{◌≡◌, Bool, true, false, List, [], ◌∷◌, length, refl, rules, sym, subst, inl, inr}
use Rattle.std.specs.Prelude.{filter, ◌↔◌, ◌⊎◌, ◌==◌, ◌||◌, if◌then◌else◌, Option}
use Rattle.firmware.specs.declared.file.DeliveryStatement.{DeliveryStatement}
use Rattle.orders.specs.declared.agreement.Agreement.{Agreement}
use Rattle.orders.specs.declared.agreement.Agreement.TheVariants as agreement
use Rattle.orders.specs.declared.order.Order.{Order}
use Rattle.orders.specs.Agreements.{Agrees}
use Rattle.orders.specs.Orders.{by_globs, by_names, IsOneKind}
use Rattle.runs.specs.declared.calls.Call.{Call}
use Rattle.model_wording.specs.declared.comparison.Comparison.{Comparison}
use Rattle.model_wording.specs.declared.comparison.Comparison.TheVariants.{Alone, Agree}
use Rattle.model_wording.specs.Comparing.{is_by_glob, is_by_name, calls_in, comparison_of, TellsOrder}
use Rattle.model_wording.proofs.Joined.{globs-calls, names-calls}

abbrev either_none : List DeliveryStatement → List DeliveryStatement → Bool
either_none globs names = (length globs == 0) || (length names == 0)

no_calls : (globs names : List DeliveryStatement) → (either_none globs names ≡ true) ↔ ((calls_in globs ≡ []) ⊎ (calls_in names ≡ []))
no_calls [] names = (λ e. inl refl, λ h. refl)
no_calls (x ∷ globs) [] = (λ e. inr refl, λ h. search rules)
no_calls (x ∷ globs) (y ∷ names) =
    let f : either_none (x ∷ globs) (y ∷ names) ≡ false = search rules in
    (λ e. absurd (cc), λ h. elim h [ inl n ↦ absurd (cc) | inr n ↦ absurd (cc) ])

one_kind : (ss : List DeliveryStatement) → (either_none (filter is_by_glob ss) (filter is_by_name ss) ≡ true) ↔ IsOneKind (calls_in ss)
one_kind ss =
    subst (λ (ns : List Call). (either_none (filter is_by_glob ss) (filter is_by_name ss) ≡ true) ↔ ((by_globs (calls_in ss) ≡ []) ⊎ (ns ≡ []))) (names-calls ss)
    (subst (λ (gs : List Call). (either_none (filter is_by_glob ss) (filter is_by_name ss) ≡ true) ↔ ((gs ≡ []) ⊎ (calls_in (filter is_by_name ss) ≡ []))) (globs-calls ss)
    (no_calls (filter is_by_glob ss) (filter is_by_name ss)))

chosen : (b : Bool) (o : Order) (s : Option DeliveryStatement) → ((if b then Alone else Agree o s) ≡ Alone) ↔ (b ≡ true)
chosen true o s = (λ e. refl, λ e. refl)
chosen false o s = (λ e. absurd (cc), λ e. absurd (cc))

told_alone : (ss : List DeliveryStatement) (o : Order) (a : Agreement) → (comparison_of ss o a ≡ Alone) ↔ (Agrees a × IsOneKind (calls_in ss))
told_alone ss o (agreement.Agree d) =
    let c = chosen (either_none (filter is_by_glob ss) (filter is_by_name ss)) o _ in
    let k = one_kind ss in
    (λ e. (tt, k.0 (c.0 e)), λ p. c.1 (k.1 p.1))
told_alone ss o (agreement.Parted i) = (λ e. absurd (cc), λ p. absurd p.0)

-- no other order is told exactly where the orders agree and all are of one kind
pub alone : (ss : List DeliveryStatement) (o : Order) (a : Agreement) (c : Comparison) → c ≡ comparison_of ss o a → (c ≡ Alone) ↔ (Agrees a × IsOneKind (calls_in ss))
alone ss o a c e = subst (λ (x : Comparison). (x ≡ Alone) ↔ (Agrees a × IsOneKind (calls_in ss))) (sym e) (told_alone ss o a)

either : (b : Bool) (o : Order) (s : Option DeliveryStatement) → TellsOrder o (if b then Alone else Agree o s)
either true o s = tt
either false o s = refl

told_order : (ss : List DeliveryStatement) (o : Order) (a : Agreement) → TellsOrder o (comparison_of ss o a)
told_order ss o (agreement.Agree d) = either _ o _
told_order ss o (agreement.Parted i) = refl

-- the order that is told
pub tells_order : (ss : List DeliveryStatement) (o : Order) (a : Agreement) (c : Comparison) → c ≡ comparison_of ss o a → TellsOrder o c
tells_order ss o a c e = subst (TellsOrder o) (sym e) (told_order ss o a)
