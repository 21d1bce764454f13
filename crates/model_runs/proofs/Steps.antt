-- One more item of a list was read.
use Rattle.std.proofs.Common.{◌≡◌, ℕ, ◌+◌, ◌<◌, List, [], ◌∷◌, ◌++◌, length, get_or, Bool, Option, Result, take, map, refl, arith, ap, ◌∙◌, sym}
use Rattle.std.specs.List.{slice_get}
use Rattle.std.proofs.lemmas.List.{take_more, map-append, length-take-le, append_assoc, append-nil}
use Rattle.hir_def.specs.declared.fault.IndexFault.{IndexFault}
use Rattle.firmware.specs.declared.deliveries.Outcome.{Outcome}
use Rattle.firmware.specs.declared.file.DeliveryStatement.{DeliveryStatement}
use Rattle.runs.specs.declared.calls.Call.{Call}
use Rattle.model_runs.specs.Calls.{result_of, result_at, outcome, outcomes_of}

pub mapped : {X Y : Type 0} (f : X → Y) (xs : List X) (i : ℕ) (d : X) → i < length xs → (ys next : List Y) → ys ≡ map f (take i xs) → next ≡ ys ++ f (get_or xs i d) ∷ [] → next ≡ map f (take (i + 1) xs)
mapped {X} {Y} f xs i d h ys next e n =
    n ∙ ap (λ (t : List Y). t ++ f (get_or xs i d) ∷ []) e ∙ sym (ap (map f) (take_more xs i d h) ∙ map-append f (take i xs) (get_or xs i d ∷ []))

next-outcome : (ss : List DeliveryStatement) (cs : List Call) (s : DeliveryStatement) → outcomes_of (ss ++ s ∷ []) cs ≡ outcomes_of ss cs ++ outcome s (result_at (slice_get cs (length ss)))
next-outcome [] [] s = refl
next-outcome [] (c ∷ cs) s = append-nil (outcome s (result_of c))
next-outcome (x ∷ ss) [] s = refl
next-outcome (x ∷ ss) (c ∷ cs) s =
    ap (λ (t : List Outcome). outcome x (result_of c) ++ t) (next-outcome ss cs s) ∙ sym (append_assoc (outcome x (result_of c)) (outcomes_of ss cs) (outcome s (result_at (slice_get cs (length ss)))))

-- one more statement with what came of its call, if that was made
pub one_outcome_more : (ss : List DeliveryStatement) (cs : List Call) (i : ℕ) (d : DeliveryStatement) → i < length ss → (os next : List Outcome) (r : Option (Result Bool IndexFault)) → os ≡ outcomes_of (take i ss) cs → r ≡ result_at (slice_get cs i) → next ≡ os ++ outcome (get_or ss i d) r → next ≡ outcomes_of (take (i + 1) ss) cs
one_outcome_more ss cs i d h os next r e a n =
    let k : length (take i ss) ≡ i = length-take-le _ _ (omega arith) in
    n ∙ ap (λ (t : List Outcome). t ++ outcome (get_or ss i d) r) e
    ∙ ap (λ (q : Option (Result Bool IndexFault)). outcomes_of (take i ss) cs ++ outcome (get_or ss i d) q) a
    ∙ sym (ap (λ (t : List DeliveryStatement). outcomes_of t cs) (take_more ss i d h) ∙ next-outcome (take i ss) cs (get_or ss i d)
    ∙ ap (λ (j : ℕ). outcomes_of (take i ss) cs ++ outcome (get_or ss i d) (result_at (slice_get cs j))) k)
