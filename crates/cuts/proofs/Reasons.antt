-- One more answer, and what no answer reaches.
use Rattle.std.proofs.Common.{◌≡◌, ℕ, zero, suc, true, List, [], ◌∷◌, ◌++◌, Option, Some, None, Ok, Err, Result, sym, refl, ap, ◌∙◌, subst, ◌↔◌, inl, inr, rules, take, length, ◌+◌, ◌<◌, get_or}
use Rattle.std.specs.Option.{option_or}
use Rattle.std.proofs.lemmas.Bool.{cases_Bool}
use Rattle.std.proofs.lemmas.List.{take_more}
use Rattle.hir_def.specs.declared.ModuleDefId.{ModuleDefId}
use Rattle.hir_def.specs.declared.Namespace.{Namespace}
use Rattle.hir_def.specs.declared.Namespace.TheVariants as namespace
use Rattle.hir_def.specs.declared.fault.PathFault.{PathFault}
use Rattle.hir_def.specs.contracts.ModuleDefIdPartialEq.TheImpl.{eq-value as same_def}
use Rattle.entries.specs.declared.per_ns.PerNs.{PerNs}
use Rattle.path_resolution.specs.declared.answer.ResolvePathResult.{ResolvePathResult}
use Rattle.firmware.specs.declared.definitions.Definitions.{Definitions}
use Rattle.cuts.specs.declared.asked.Answered.{Answered}
use Rattle.cuts.specs.declared.reached.Reason.{Reason}
use Rattle.cuts.specs.Reached.{item_in, noted, noted_in, reason_at, reason_of, reason_by, reason_in, reason, Nowhere}

same_law : (a b : ModuleDefId) → (same_def.it a b ≡ true) ↔ (a ≡ b)
same_law a b = search rules

or_none : {T : Type 0} (o : Option T) → option_or o None ≡ o
or_none None = refl
or_none (Some x) = refl

or_assoc : {T : Type 0} (o p q : Option T) → option_or o (option_or p q) ≡ option_or (option_or o p) q
or_assoc None p q = refl
or_assoc (Some x) p q = refl

or_left : {T : Type 0} (o p : Option T) → option_or o p ≡ None → o ≡ None
or_left None p e = refl
or_left (Some x) p e = e

or_right : {T : Type 0} (o p : Option T) → option_or o p ≡ None → p ≡ None
or_right None p e = e
or_right (Some x) p e = cc

or_both : {T : Type 0} (o p : Option T) → o ≡ None → p ≡ None → option_or o p ≡ None
or_both o p e h = rw (e, h)

module _ (f : Definitions) (item : ModuleDefId) where
  -- the reasons of a list, and then of one more answer
  pub more : (answers : List Answered) (a : Answered) → reason f (answers ++ a ∷ []) item ≡ option_or (reason f answers item) (reason_in f a item)
  more [] a = or_none (reason_in f a item)
  more (b ∷ answers) a = ap (option_or (reason_in f b item)) (more answers a) ∙ or_assoc (reason_in f b item) (reason f answers item) (reason_in f a item)

  pub next : (answers : List Answered) (i : ℕ) (a : Answered) → i < length answers → a ≡ get_or answers i a → reason f (take (i + 1) answers) item ≡ option_or (reason f (take i answers) item) (reason_in f a item)
  next answers i a h e =
      ap (λ (xs : List Answered). reason f xs item) (take_more answers i a h) ∙ more (take i answers) (get_or answers i a)
      ∙ ap (λ (x : Answered). option_or (reason f (take i answers) item) (reason_in f x item)) (sym e)

  noted_none : (d : ModuleDefId) (r : Reason) → noted d r item ≡ None → d ≡ item → (same_def.it d item ≡ true) → ◌≡◌ {A = Option Reason} (Some r) None
  noted_none d r e h t = rw t at e

  at_none : (o : Option ModuleDefId) (r : Reason) → noted_in o r item ≡ None → o ≡ Some item → ⊥
  at_none None r e h = cc
  at_none (Some d) r e h = let k : d ≡ item = cc in let t = (same_law d item).1 k in let z = noted_none d r e k t in cc

  none_at : (o : Option ModuleDefId) (r : Reason) → (o ≡ Some item → ⊥) → noted_in o r item ≡ None
  none_at None r h = refl
  none_at (Some d) r h =
      elim (cases_Bool (same_def.it d item)) [
        | inl t ↦ absurd (h (ap Some ((same_law d item).0 t)))
        | inr t ↦ rw t
      ]

  of_none : (n : ℕ) (e : PerNs) (s : Namespace) → reason_of f n e item ≡ None → reason_at f n e s item ≡ None
  of_none n e namespace.Types h = or_left _ _ (or_left _ _ h)
  of_none n e namespace.Values h = or_right _ _ (or_left _ _ h)
  of_none n e namespace.Macros h = or_right _ _ h

  none_of : (n : ℕ) (e : PerNs) → ((s : Namespace) → item_in f e s ≡ Some item → ⊥) → reason_of f n e item ≡ None
  none_of n e h =
      or_both _ _ (or_both _ _ (none_at _ _ (h namespace.Types)) (none_at _ _ (h namespace.Values))) (none_at _ _ (h namespace.Macros))

  by_none : (n : ℕ) (res : Result ResolvePathResult PathFault) (r : ResolvePathResult) (s : Namespace) → reason_by f n res item ≡ None → res ≡ Ok r → item_in f r.resolved_def s ≡ Some item → ⊥
  by_none n (Ok x) r s h e k =
      let g : x ≡ r = cc in
      at_none (item_in f r.resolved_def s) _ (of_none n r.resolved_def s (subst (λ (y : ResolvePathResult). reason_of f n y.resolved_def item ≡ None) g h)) k
  by_none n (Err x) r s h e k = cc

  none_by : (n : ℕ) (res : Result ResolvePathResult PathFault) → ((r : ResolvePathResult) (s : Namespace) → res ≡ Ok r → item_in f r.resolved_def s ≡ Some item → ⊥) → reason_by f n res item ≡ None
  none_by n (Ok x) h = none_of n x.resolved_def (λ s. h x s refl)
  none_by n (Err x) h = refl

  cut_nowhere : (answers : List Answered) → reason f answers item ≡ None → Nowhere f answers item
  cut_nowhere [] e i a r s g h k = absurd (let z : ◌≡◌ {A = Option Answered} None (Some a) = g in cc)
  cut_nowhere (b ∷ answers) e zero a r s g h k =
      let same : b ≡ a = cc in
      by_none b.ask.number b.result r s (or_left (reason_in f b item) (reason f answers item) e) (ap (λ (x : Answered). x.result) same ∙ h) k
  cut_nowhere (b ∷ answers) e (suc i) a r s g h k = cut_nowhere answers (or_right (reason_in f b item) (reason f answers item) e) i a r s g h k

  nowhere_cut : (answers : List Answered) → Nowhere f answers item → reason f answers item ≡ None
  nowhere_cut [] h = refl
  nowhere_cut (b ∷ answers) h =
      or_both (reason_in f b item) (reason f answers item) (none_by b.ask.number b.result (λ r s e k. h 0 b r s refl e k)) (nowhere_cut answers (λ i a r s g e k. h (suc i) a r s g e k))

  -- an item is cut exactly when no answer has it
  pub cut_law : (answers : List Answered) (o : Option Reason) → o ≡ reason f answers item → (o ≡ None) ↔ Nowhere f answers item
  cut_law answers o e = (λ z. cut_nowhere answers (sym e ∙ z), λ h. e ∙ nowhere_cut answers h)
