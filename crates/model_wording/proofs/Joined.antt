-- Statements in another order: their calls are the reordered calls, so that a position means the statement that stands there.
use Rattle.std.proofs.Common.{◌≡◌, ◌<◌, ◌≤◌, ℕ, Bool, true, false, cond, not, List, [], ◌∷◌, ◌++◌, length, Option, Some, None, map, refl, ap, ◌∙◌, sym, subst, inl, inr, arith}
use Rattle.std.specs.Prelude.{filter, IsSome, ◌↔◌, if◌then◌else◌}
use Rattle.std.specs.List.{slice_get}
use Rattle.std.specs.Option.{option_map, option_and_then}
use Rattle.std.proofs.lemmas.List.{length-append}
use Rattle.std.proofs.lemmas.List.Filters.{length-filter_both}
use Rattle.std.proofs.lemmas.Option.{slice_get-map, slice_get_cases}
use Rattle.firmware.specs.declared.file.DeliveryStatement.{DeliveryStatement}
use Rattle.item_scope.specs.declared.delivery.Delivery.{Delivery}
use Rattle.orders.specs.declared.agreement.Agreement.{Agreement}
use Rattle.orders.specs.declared.agreement.Agreement.TheVariants as agreement
use Rattle.orders.specs.declared.order.Order.{Order}
use Rattle.orders.specs.declared.order.Order.TheVariants.{NamesFirst, GlobsFirst}
use Rattle.orders.specs.Orders.{by_globs, by_names, reordered}
use Rattle.runs.specs.declared.calls.Call.{Call}
use Rattle.runs.specs.declared.calls.Call.TheVariants.{Deliver}
use Rattle.model_wording.specs.declared.comparison.Comparison.{Comparison}
use Rattle.model_wording.specs.declared.comparison.Comparison.TheVariants.{Alone, Agree}
use Rattle.model_wording.specs.Comparing.{is_by_glob, is_by_name, joined, calls_in, call_of, comparison_of, position_of, IsParted, PartedBelow, TellsParted, HasStatement, TellsCallAt}

-- the calls of those by glob, and of those by name
pub globs-calls : (ss : List DeliveryStatement) → calls_in (filter is_by_glob ss) ≡ by_globs (calls_in ss)
globs-calls [] = refl
globs-calls (s ∷ ss) =
    let fs = filter is_by_glob ss in
    let cs = by_globs (calls_in ss) in
    elim (is_by_glob s) as (λ b. calls_in (cond b (s ∷ fs) fs) ≡ cond b (call_of s ∷ cs) cs) [ true ↦ ap (λ (t : List Call). call_of s ∷ t) (globs-calls ss) | false ↦ globs-calls ss ]

pub names-calls : (ss : List DeliveryStatement) → calls_in (filter is_by_name ss) ≡ by_names (calls_in ss)
names-calls [] = refl
names-calls (s ∷ ss) =
    let fs = filter is_by_name ss in
    let cs = by_names (calls_in ss) in
    elim (is_by_name s) as (λ b. calls_in (cond b (s ∷ fs) fs) ≡ cond b (call_of s ∷ cs) cs) [ true ↦ ap (λ (t : List Call). call_of s ∷ t) (names-calls ss) | false ↦ names-calls ss ]

calls-append : (xs ys : List DeliveryStatement) → calls_in (xs ++ ys) ≡ calls_in xs ++ calls_in ys
calls-append [] ys = refl
calls-append (x ∷ xs) ys = ap (λ (t : List Call). call_of x ∷ t) (calls-append xs ys)

other_order : Order → List DeliveryStatement → List DeliveryStatement
other_order o ss = joined o (filter is_by_glob ss) (filter is_by_name ss)

joined-calls : (o : Order) (ss : List DeliveryStatement) → calls_in (other_order o ss) ≡ reordered o (calls_in ss)
unfolding other_order
joined-calls NamesFirst ss =
    calls-append (filter is_by_name ss) (filter is_by_glob ss) ∙ ap (λ (t : List Call). t ++ calls_in (filter is_by_glob ss)) (names-calls ss) ∙ ap (λ (t : List Call). by_names (calls_in ss) ++ t) (globs-calls ss)
joined-calls GlobsFirst ss =
    calls-append (filter is_by_glob ss) (filter is_by_name ss) ∙ ap (λ (t : List Call). t ++ calls_in (filter is_by_name ss)) (globs-calls ss) ∙ ap (λ (t : List Call). by_globs (calls_in ss) ++ t) (names-calls ss)

through : (s : Option DeliveryStatement) → option_map (λ (d : Delivery). Deliver d None) (option_map (λ (x : DeliveryStatement). x.delivery) s) ≡ option_map call_of s
through None = refl
through (Some s) = refl

call-at : (ss : List DeliveryStatement) (i : ℕ) → option_map call_of (slice_get ss i) ≡ slice_get (calls_in ss) i
call-at ss i =
    let call = λ (d : Delivery). Deliver d None in
    let delivery = λ (x : DeliveryStatement). x.delivery in
    sym (slice_get-map call (map delivery ss) i ∙ ap (option_map call) (slice_get-map delivery ss i) ∙ through (slice_get ss i))

there : (o : Order) (ss : List DeliveryStatement) (i : ℕ) → option_map call_of (slice_get (joined o (filter is_by_glob ss) (filter is_by_name ss)) i) ≡ slice_get (reordered o (calls_in ss)) i
unfolding other_order
there o ss i = call-at (other_order o ss) i ∙ ap (λ (cs : List Call). slice_get cs i) (joined-calls o ss)

agreed : (cs : List Call) (ss : List DeliveryStatement) (o : Order) (d : Option ℕ) → ((i : ℕ) → option_map call_of (slice_get ss i) ≡ slice_get cs i) → (b : Bool) → TellsCallAt cs d (if b then Alone else Agree o (option_and_then (slice_get ss) d))
agreed cs ss o d h true = tt
agreed cs ss o None h false = refl
agreed cs ss o (Some i) h false = h i

tells : (ss : List DeliveryStatement) (o : Order) (a : Agreement) → TellsCallAt (reordered o (calls_in ss)) (position_of a) (comparison_of ss o a)
tells ss o (agreement.Agree d) = agreed (reordered o (calls_in ss)) (joined o (filter is_by_glob ss) (filter is_by_name ss)) o d (there o ss) _
tells ss o (agreement.Parted i) = there o ss i

-- the statement that is told is the one whose call stands at the position
pub tells_call : (ss : List DeliveryStatement) (o : Order) (a : Agreement) (c : Comparison) → c ≡ comparison_of ss o a → TellsCallAt (reordered o (calls_in ss)) (position_of a) c
tells_call ss o a c e = subst (TellsCallAt (reordered o (calls_in ss)) (position_of a)) (sym e) (tells ss o a)

never : (o : Order) (d : Option DeliveryStatement) (b : Bool) → TellsParted (if b then Alone else Agree o d) → ⊥
never o d true h = h
never o d false h = h

parts : (ss : List DeliveryStatement) (o : Order) (a : Agreement) → TellsParted (comparison_of ss o a) ↔ IsParted a
parts ss o (agreement.Agree d) = (never o _ _, λ x. absurd x)
parts ss o (agreement.Parted i) = (λ x. tt, λ x. tt)

-- a parting is told, and nothing else is told as one
pub parted : (ss : List DeliveryStatement) (o : Order) (a : Agreement) (c : Comparison) → c ≡ comparison_of ss o a → TellsParted c ↔ IsParted a
parted ss o a c e = subst (λ (x : Comparison). TellsParted x ↔ IsParted a) (sym e) (parts ss o a)

twice : (b : Bool) → b ≡ not (not b)
twice true = refl
twice false = refl

either : (o : Order) (d : Option DeliveryStatement) (b : Bool) → HasStatement (if b then Alone else Agree o d)
either o d true = tt
either o d false = tt

joined-length : (o : Order) (ss : List DeliveryStatement) → length (joined o (filter is_by_glob ss) (filter is_by_name ss)) ≡ length ss
joined-length NamesFirst ss = length-append (filter is_by_name ss) (filter is_by_glob ss) ∙ length-filter_both is_by_name is_by_glob (λ s. twice (is_by_glob s)) ss
joined-length GlobsFirst ss = length-append (filter is_by_glob ss) (filter is_by_name ss) ∙ length-filter_both is_by_glob is_by_name (λ s. refl) ss

some-at : (ss : List DeliveryStatement) (i : ℕ) → i < length ss → IsSome (slice_get ss i)
some-at ss i h =
    elim ((slice_get_cases ss i).1) [
      | inl g ↦ subst IsSome (sym g.2) refl
      | inr g ↦ let k : length ss ≤ i = g.0 in let n : ⊥ = omega arith in absurd n
    ]

has : (ss : List DeliveryStatement) (o : Order) (a : Agreement) → PartedBelow (length ss) a → HasStatement (comparison_of ss o a)
has ss o (agreement.Agree d) h = either o _ _
has ss o (agreement.Parted i) h = some-at (joined o (filter is_by_glob ss) (filter is_by_name ss)) i (subst (λ (n : ℕ). i < n) (sym (joined-length o ss)) h)

-- where it parted at one of the statements, that is told
pub has_statement : (ss : List DeliveryStatement) (o : Order) (a : Agreement) (c : Comparison) → c ≡ comparison_of ss o a → PartedBelow (length ss) a → HasStatement c
has_statement ss o a c e h = subst HasStatement (sym e) (has ss o a h)
