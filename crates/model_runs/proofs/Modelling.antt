-- A model is what its deliveries make of the index below: the further delivery is refused, and so changes nothing.
use Rattle.std.proofs.Common.{◌≡◌, ℕ, ◌-◌, Bool, true, false, if◌then◌else◌, nat_lt, List, [], ◌∷◌, ◌++◌, length, Option, Some, None, Result, is_ok, is_some, refl, ap, ◌∙◌, sym, subst, inl, inr, rules, map}
use Rattle.std.specs.Option.{option_or}
use Rattle.std.proofs.lemmas.Bool.{cases_Bool}
use Rattle.std.proofs.lemmas.List.{length-map}
use Rattle.nameres.specs.declared.Tree as tree
use Rattle.hir_def.specs.declared.fault.IndexFault.{IndexFault}
use Rattle.hir_def.specs.declared.fault.IndexFault.TheVariants.{NoModule, NoName, NothingFilled}
use Rattle.hir_def.specs.declared.fault.PathFault.{PathFault}
use Rattle.entries.specs.Entries.{is_nothing}
use Rattle.item_scope.specs.declared.delivery.Delivery.{Delivery}
use Rattle.item_scope.specs.declared.index.Index as index
use Rattle.item_scope.specs.IndexData.{IndexData}
use Rattle.item_scope.specs.Deliveries.{faulty, short_of_rows}
use Rattle.item_scope.specs.Deliveries as any
use Rattle.item_scope.specs.InTurn.{InTurn}
use Rattle.item_scope.specs.InTurn.InTurn.{done, next}
use Rattle.item_scope.specs.Views.{View}
use Rattle.firmware.specs.declared.deliveries.Outcome.{Outcome}
use Rattle.firmware.specs.declared.file.DeliveryStatement.{DeliveryStatement}
use Rattle.firmware.specs.Deliveries as statements
use Rattle.orders.specs.declared.agreement.Agreement.{Agreement}
use Rattle.orders.specs.Agreements.{AgreementLaw, agreement_of}
use Rattle.orders.specs.Orders.{calls_of, reordered}
use Rattle.orders.specs.declared.order.Order.{Order}
use Rattle.orders.proofs.Reordered.{reordered-unmade}
use Rattle.path_resolution.specs.declared.answer.ResolvePathResult.{ResolvePathResult as Answer}
use Rattle.path_resolution.specs.declared.question.Question.{Question}
use Rattle.path_resolution.specs.Questions.{answered}
use Rattle.path_text.specs.declared.mod_path.ModPath.{ModPath}
use Rattle.runs.specs.declared.calls.Call.{Call}
use Rattle.runs.specs.declared.calls.Call.TheVariants.{Deliver, Ask}
use Rattle.runs.specs.Order.{Alike}
use Rattle.runs.specs.Runs.{Does, Made, told, told_after, unmade}
use Rattle.variants.specs.declared.own_places.OwnPlace.{OwnPlace}
use Rattle.variants.specs.declared.variant.Variant.{Variant}
use Rattle.variants.specs.Own.{overlaid, rows_after}
use Rattle.variants.specs.Variants.{below_of, own_in, view_in, left_in, Delivers}
use Rattle.variants.proofs.Delivered as variants
use Rattle.model_runs.specs.Calls.{made_call, outcomes_of}
use Rattle.model_runs.specs.Made.{DidOver, MadeOver, RanOver, IsMadeBy, Compares, TellTheSame, NamesBelow}
use Rattle.model_runs.proofs.Positions.{names_below, reordered-length}

is_faulty : (f : IndexData) (d : Delivery) → is_nothing d.entries ≡ true → (x : IndexFault) × (faulty f d ≡ Some x)
is_faulty f d n =
    elim (cases_Bool (nat_lt d.receiver.0 f.tree.modules)) [
      | inr e ↦ rw e (NoModule, refl)
      | inl e ↦
          elim (cases_Bool (nat_lt d.name.0 f.names)) [ inr h ↦ rw (e, h) (NoName, refl) | inl h ↦ rw (e, h, n) (NothingFilled, refl) ]
    ]

unless_some : (o q : Option IndexFault) (x : IndexFault) (same came : List OwnPlace) → o ≡ Some x → (if is_some (option_or o q) then same else came) ≡ same
unless_some o q x same came e = rw e refl

-- a delivery that fills nothing makes no place
stays : (v : View) (own : List OwnPlace) (d : Delivery) → is_nothing d.entries ≡ true → rows_after v own d ≡ own
stays v own d n =
    let x = is_faulty (overlaid v own).fixed d n in
    unless_some (faulty (overlaid v own).fixed d) (short_of_rows (64 - length own) d) x.0 own _ x.1

module _ (v : View) (d : Delivery) (r : Result Bool IndexFault) (n : is_nothing d.entries ≡ true) where
  -- the run before such a delivery ends as the one with it
  before_it : {own now : List OwnPlace} (made : List Call) → InTurn (DidOver v) own (made ++ Deliver d (Some r) ∷ []) now → InTurn (DidOver v) own made now
  before_it {own} {now} [] (next h done) = subst (InTurn (DidOver v) own []) (sym (h.places ∙ stays v own d n)) done
  before_it (x ∷ made) (next h k) = next h (before_it made k)

module _ {I : Type 0} {index : index.Ghosts I} {tree : tree.Ghosts I} where
  -- a call that was made to a variant
  record Keeps (x : Variant I index tree) (c : Call) (y : Variant I index tree) : Type 0 where
    did : DidOver (index.view (below_of x)) (own_in x) c (own_in y)
    below : below_of y ≡ below_of x

  keeps : (x y : Variant I index tree) (c : Call) → Does Delivers x c y → Keeps x c y
  keeps x y (Deliver d (Some r)) h = record {
    did = record {
      takes = subst (λ (b : I). any.Takes (view_in x) (left_in x) d r (overlaid (index.view b) (own_in y)) (left_in y)) h.copies.below h.takes;
      places = (variants.delivers x y d r h).own;
    };
    below = h.copies.below;
  }
  keeps x y (Deliver d None) h = absurd h
  keeps x y (Ask q path (Some r)) h = record { did = ap own_in h; below = ap below_of h }
  keeps x y (Ask q path None) h = absurd h

  record KeepsAll (x : Variant I index tree) (cs : List Call) (y : Variant I index tree) : Type 0 where
    did : InTurn (DidOver (index.view (below_of x))) (own_in x) cs (own_in y)
    below : below_of y ≡ below_of x

  keeps_all : {x y : Variant I index tree} {cs : List Call} → InTurn (Does Delivers) x cs y → KeepsAll x cs y
  keeps_all done = record { did = done; below = refl }
  keeps_all (next {x = x} {y = y} {z = z} {c = c} {cs = cs} s t) =
      let one = keeps x y c s in
      let more = keeps_all t in
      record {
        did = next one.did (subst (λ (b : I). InTurn (DidOver (index.view b)) (own_in y) cs (own_in z)) one.below more.did);
        below = more.below ∙ one.below;
      }

  -- statements' deliveries as calls
  calls_made : {x y : Variant I index tree} {os : List Outcome} → statements.Made Delivers x os y → InTurn (Does Delivers) x (map made_call os) y
  calls_made done = done
  calls_made (next s t) = next s (calls_made t)

statements_told : (v : View) (left : ℕ) (ss : List DeliveryStatement) (os : List Outcome) (w : View) (l : ℕ) → statements.Ran v left ss os w l → map (λ o. o.statement) os ≡ ss
statements_told v left [] [] w l h = refl
statements_told v left [] (o ∷ os) w l h = absurd h
statements_told v left (s ∷ ss) [] w l h = absurd h
statements_told v left (s ∷ ss) (o ∷ os) w l h =
    let rest : map (λ o. o.statement) os ≡ ss = statements_told h.1.0 h.1.1.0 ss os w l h.1.1.1.1 in
    ap (λ (t : DeliveryStatement). t ∷ map (λ o. o.statement) os) h.0 ∙ ap (λ (ts : List DeliveryStatement). s ∷ ts) rest

-- calls that are to be made
given-unmade : (ds : List Delivery) → map unmade (calls_of ds) ≡ calls_of ds
given-unmade [] = refl
given-unmade (d ∷ ds) = ap (λ (cs : List Call). Deliver d None ∷ cs) (given-unmade ds)

-- statements with what came of their calls
record Told (ss : List DeliveryStatement) (cs : List Call) : Type 0 where
  statements : map (λ o. o.statement) (outcomes_of ss cs) ≡ ss
  calls : map made_call (outcomes_of ss cs) ≡ cs

by_statements : (v : View) {own now : List OwnPlace} (ss : List DeliveryStatement) (cs : List Call) → map unmade cs ≡ calls_of (map (λ x. x.delivery) ss) → InTurn (DidOver v) own cs now → Told ss cs
by_statements v [] [] e k = record { statements = refl; calls = refl }
by_statements v [] (c ∷ cs) e k = cc
by_statements v (x ∷ ss) [] e k = cc
by_statements v (x ∷ ss) (Deliver d (Some r) ∷ cs) e (next h k) =
    let f : d ≡ x.delivery = cc in
    let rest : map unmade cs ≡ calls_of (map (λ y. y.delivery) ss) = cc in
    let again = by_statements v ss cs rest k in
    let a : map made_call (outcomes_of ss cs) ≡ cs = again.calls in
    record { statements = ap (λ (ts : List DeliveryStatement). x ∷ ts) again.statements; calls = cc }
by_statements v (x ∷ ss) (Deliver d None ∷ cs) e (next h k) = absurd h
by_statements v (x ∷ ss) (Ask q path r ∷ cs) e k = cc

-- after a run what its calls made is told
did-told : (v : View) (own now : List OwnPlace) (c : Call) → DidOver v own c now → overlaid v now ≡ told (overlaid v own) c
did-told v own now (Deliver d (Some r)) h = taken-told (overlaid v own) (overlaid v now) d r h.takes.after
  where
    taken-told : (u w : View) (d : Delivery) (r : Result Bool IndexFault) → w ≡ (if is_ok r then any.delivered u d else u) → w ≡ told u (Deliver d (Some r))
    taken-told u w d r h = search rules
did-told v own now (Deliver d None) h = absurd h
did-told v own now (Ask q path r) h = ap (overlaid v) h

all-told : (v : View) {own now : List OwnPlace} (made : List Call) → InTurn (DidOver v) own made now → overlaid v now ≡ told_after (overlaid v own) made
all-told v [] done = refl
all-told v (x ∷ made) (next {x = own} {y = mid} h k) = all-told v made k ∙ ap (λ w. told_after w made) (did-told v own mid x h)

-- what tells as alike indexes do tells the same
same : (x y v w : View) (r s : Result Answer PathFault) → x ≡ v → y ≡ w → Alike v w r s → TellTheSame x y
same x y v w r s e h a =
    let f : x ≡ y = e ∙ a.told ∙ sym h in
    record { told = f; answers = λ q k ns. ap (λ (z : View). answered z q k ns) f }

module _ {I : Type 0} {index : index.Ghosts I} {tree : tree.Ghosts I} (b : I) where
  -- a variant over that index, without places of its own
  pub record IsNew (x : Variant I index tree) : Type 0 where
    pub own : own_in x ≡ []
    pub below : below_of x ≡ b

  -- statements' deliveries were made to it
  pub is_made : {x y : Variant I index tree} (ss given : List DeliveryStatement) (os : List Outcome) → given ≡ ss → IsNew x → statements.Ran (view_in x) (left_in x) given os (view_in y) (left_in y) → statements.Made Delivers x os y
      → IsMadeBy ss (index.view b) (own_in y)
  is_made {x} {y} ss given os same e ran made =
      let k = keeps_all (calls_made made) in (
        os,
        record {
          statements = statements_told _ _ given os _ _ ran ∙ same;
          made = subst (λ (c : I). InTurn (DidOver (index.view c)) [] (map made_call os) (own_in y)) e.below (subst (λ (own : List OwnPlace). InTurn (DidOver (index.view (below_of x))) own (map made_call os) (own_in y)) e.own k.did);
        },
      )

  pub stands_over : {x y : Variant I index tree} (os : List Outcome) → IsNew x → statements.Made Delivers x os y → below_of y ≡ b
  stands_over os e made = (keeps_all (calls_made made)).below ∙ e.below

  -- calls were made to it, and now a delivery that fills nothing
  module _ {x y : Variant I index tree} (cs : List Call) (d : Delivery) (n : is_nothing d.entries ≡ true) (r : Result Bool IndexFault) (e : IsNew x) (made : Made Delivers x (cs ++ Deliver d (Some r) ∷ []) y) where
    pub over : MadeOver (index.view b) cs (own_in y)
    over =
        let k = keeps_all made in
        before_it (index.view b) d r n cs
        (subst (λ (c : I). InTurn (DidOver (index.view c)) [] (cs ++ Deliver d (Some r) ∷ []) (own_in y)) e.below
        (subst (λ (own : List OwnPlace). InTurn (DidOver (index.view (below_of x))) own (cs ++ Deliver d (Some r) ∷ []) (own_in y)) e.own k.did))

    pub stands : below_of y ≡ b
    stands = (keeps_all made).below ∙ e.below

    pub tells : overlaid (index.view b) (own_in y) ≡ told_after (index.view b) cs
    tells = all-told (index.view b) cs over

-- Statements' deliveries were made to an index over one that tells u, and in another order to another one.
module _ (u : View) (ss : List DeliveryStatement) (ds : List Delivery) (e : ds ≡ map (λ x. x.delivery) ss) (cs : List Call) (given : map unmade cs ≡ map unmade (calls_of ds)) (own : List OwnPlace) (made : MadeOver u cs own) where
  made-calls : map unmade cs ≡ calls_of (map (λ s. s.delivery) ss)
  made-calls = given ∙ given-unmade ds ∙ ap calls_of e

  pub runs_over : (os : List Outcome) → os ≡ outcomes_of ss cs → RanOver u ss os own
  runs_over os h =
      let t = by_statements u ss cs made-calls made in
      subst (λ (os : List Outcome). RanOver u ss os own) (sym h)
      (record { statements = t.statements; made = subst (λ (c : List Call). MadeOver u c own) (sym t.calls) made })

  as_many : length cs ≡ length ss
  as_many =
      sym (length-map cs unmade) ∙ ap (λ (t : List Call). length t) made-calls ∙ length-map (map (λ s. s.delivery) ss) (λ (d : Delivery). Deliver d None) ∙ length-map ss (λ (s : DeliveryStatement). s.delivery)

  pub names_one : (others : List Call) (order : Order) (a : Agreement) → a ≡ agreement_of (reordered order cs) others → NamesBelow (length ss) a
  names_one others order a h =
      subst (λ (k : ℕ). NamesBelow k a) (reordered-length order cs ∙ as_many) (subst (NamesBelow (length (reordered order cs))) (sym h) (names_below (reordered order cs) others))

  pub compares : (v w : View) (others : List Call) (order : Order) (a : Agreement) (r s : Result Answer PathFault) → v ≡ u → w ≡ u → map unmade others ≡ map unmade (reordered order (calls_of ds)) → (other : List OwnPlace) → MadeOver u others other
      → a ≡ agreement_of (reordered order cs) others → AgreementLaw v w a cs others r s → (os : List Outcome) → os ≡ outcomes_of ss cs → Compares u os own order a other
  compares v w others order a r s ev ew asked other second h law os f =
      let again : map made_call os ≡ cs = ap (map made_call) f ∙ (by_statements u ss cs made-calls made).calls in
      let one : overlaid u own ≡ told_after v cs = all-told u cs made ∙ ap (λ (z : View). told_after z cs) (sym ev) in
      let two : overlaid u other ≡ told_after w others = all-told u others second ∙ ap (λ (z : View). told_after z others) (sym ew) in
      record {
        calls = others;
        given = asked ∙ reordered-unmade order (calls_of ds) ∙ ap (reordered order) (sym given) ∙ sym (reordered-unmade order cs) ∙ ap (λ (t : List Call). map unmade (reordered order t)) (sym again);
        made = second;
        agreement = h ∙ ap (λ (t : List Call). agreement_of (reordered order t) others) (sym again);
        agree = λ g. same (overlaid u own) (overlaid u other) (told_after v cs) (told_after w others) r s one two (law (ev ∙ sym ew) g);
      }
