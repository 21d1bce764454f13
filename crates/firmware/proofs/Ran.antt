-- One more delivery is made.
use Rattle.std.proofs.Common.{◌≡◌, ℕ, ◌+◌, ◌<◌, ◌≤◌, List, [], ◌∷◌, ◌++◌, length, get_or, take, sym, subst, refl}
use Rattle.std.proofs.lemmas.List.{take_more, take_all}
use Rattle.item_scope.specs.Views.{View}
use Rattle.item_scope.specs.Deliveries.{Takes}
use Rattle.firmware.specs.declared.file.DeliveryStatement.{DeliveryStatement}
use Rattle.firmware.specs.declared.deliveries.Outcome.{Outcome}
use Rattle.firmware.specs.Deliveries.{Ran}

one_more : (v : View) (left : ℕ) (ss : List DeliveryStatement) (os : List Outcome) (s : DeliveryStatement) (o : Outcome) (w : View) (l : ℕ) (w' : View) (l' : ℕ) → Ran v left ss os w l → o.statement ≡ s → Takes w l s.delivery o.result w' l' → Ran v left (ss ++ s ∷ []) (os ++ o ∷ []) w' l'
one_more v left [] [] s o w l w' l' a e t =
    (e, (w', (l', (subst (λ (x : View). Takes x left s.delivery o.result w' l') a.0 (subst (λ (x : ℕ). Takes w x s.delivery o.result w' l') a.1 t), (refl, refl)))))
one_more v left [] (y ∷ os) s o w l w' l' a e t = absurd a
one_more v left (x ∷ ss) [] s o w l w' l' a e t = absurd a
one_more v left (x ∷ ss) (y ∷ os) s o w l w' l' a e t =
    (a.0, (a.1.0, (a.1.1.0, (a.1.1.1.0, one_more a.1.0 a.1.1.0 ss os s o w l w' l' a.1.1.1.1 e t))))

module _ (v : View) (left : ℕ) where
  pub run_more : (ss : List DeliveryStatement) (i : ℕ) (d : DeliveryStatement) → i < length ss → (os next : List Outcome) (o : Outcome) (w : View) (l : ℕ) (w' : View) (l' : ℕ) → Ran v left (take i ss) os w l → o.statement ≡ get_or ss i d → Takes w l (get_or ss i d).delivery o.result w' l' → next ≡ os ++ o ∷ [] → Ran v left (take (i + 1) ss) next w' l'
  run_more ss i d h os next o w l w' l' a e t n =
      subst (λ (x : List Outcome). Ran v left (take (i + 1) ss) x w' l') (sym n)
      (subst (λ (x : List DeliveryStatement). Ran v left x (os ++ o ∷ []) w' l') (sym (take_more ss i d h)) (one_more v left (take i ss) os (get_or ss i d) o w l w' l' a e t))

  pub run_all : (ss : List DeliveryStatement) (i : ℕ) (os : List Outcome) (w : View) (l : ℕ) → length ss ≤ i → Ran v left (take i ss) os w l → Ran v left ss os w l
  run_all ss i os w l h a = subst (λ (x : List DeliveryStatement). Ran v left x os w l) (take_all i ss h) a
