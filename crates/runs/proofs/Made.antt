-- Calls that were made one by one, and what is told after them.
use Rattle.std.proofs.Common.{◌≡◌, ℕ, zero, suc, ◌+◌, ◌<◌, List, [], ◌∷◌, ◌++◌, length, get_or, set, take, map, Result, refl, sym, ap, subst, ◌∙◌, rules}
use Rattle.std.proofs.lemmas.List.{take_more_set}
use Rattle.hir_def.specs.declared.fault.PathFault.{PathFault}
use Rattle.path_text.specs.declared.mod_path.ModPath.{ModPath}
use Rattle.item_scope.specs.InTurn.{InTurn}
use Rattle.item_scope.specs.InTurn.InTurn.{done, next}
use Rattle.item_scope.specs.Views.{View}
use Rattle.item_scope.proofs.InTurn.{one_more}
use Rattle.path_resolution.specs.declared.answer.ResolvePathResult.{ResolvePathResult as Answer}
use Rattle.path_resolution.specs.declared.question.Question.{Question}
use Rattle.path_resolution.specs.Questions.{answered}
use Rattle.runs.specs.declared.calls.Call.{Call}
use Rattle.runs.specs.Runs.{State, Did, Ran, unmade, told, told_after}

module _ {X : Type 0} {Step : X → Call → X → Type 0} where
  pub none_made : (x : X) → InTurn Step x [] x
  none_made x = done

  -- a call was made after the others
  pub more_made : {x y z : X} {cs : List Call} (c : Call) → InTurn Step x cs y → Step y c z → InTurn Step x (cs ++ c ∷ []) z
  more_made c r d = one_more c r d

  -- the next call of a list was made
  pub next_made : {x y z : X} (cs : List Call) (i : ℕ) (c : Call) → i < length cs → InTurn Step x (take i cs) y → Step y c z → InTurn Step x (take (i + 1) (set cs i c)) z
  next_made {x} {y} {z} cs i c h r d = subst (λ xs. InTurn Step x xs z) (sym (take_more_set cs i c h)) (one_more c r d)

-- a result is written beside its call
pub unmade_set : (cs : List Call) (i : ℕ) (c d : Call) → unmade c ≡ unmade (get_or cs i d) → map unmade (set cs i c) ≡ map unmade cs
unmade_set [] i c d e = refl
unmade_set (x ∷ xs) zero c d e = ap (λ y. y ∷ map unmade xs) e
unmade_set (x ∷ xs) (suc i) c d e = ap (λ ys. unmade x ∷ ys) (unmade_set xs i c d e)

did-told : (s t : State) (c : Call) → Did s c t → t.view ≡ told s.view c
did-told s t c h = search rules

pub ran_told : {s t : State} {cs : List Call} → Ran s cs t → t.view ≡ told_after s.view cs
ran_told done = refl
ran_told (next {x = s} {y = m} {c = c} {cs = cs} d r) = ran_told r ∙ ap (λ v. told_after v cs) (did-told s m c d)

-- what was answered, by what was told
pub answered_told : (v w : View) (q : Question) (path : ModPath) (r : Result Answer PathFault) → r ≡ answered v q path.kind path.names.items → v ≡ w → r ≡ answered w q path.kind path.names.items
answered_told v w q path r a e = a ∙ ap (λ z. answered z q path.kind path.names.items) e
