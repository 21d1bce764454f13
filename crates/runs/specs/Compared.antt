-- What was done to an index, and what came of it.
use Rattle.std.specs.Prelude.{◌≡◌, Bool, List, [], ◌∷◌, ◌++◌, map, Some, Result}
use Rattle.hir_def.specs.declared.fault.IndexFault.{IndexFault}
use Rattle.path_text.specs.declared.mod_path.ModPath.{ModPath}
use Rattle.item_scope.specs.declared.delivery.Delivery.{Delivery}
use Rattle.path_resolution.specs.declared.question.Question.{Question}
use Rattle.path_resolution.specs.Questions.{answered}
use Rattle.runs.specs.declared.calls.Call.{Call}
use Rattle.runs.specs.declared.calls.Call.TheVariants.{Deliver}
use Rattle.runs.specs.declared.compare.Outcome.{Outcome}
use Rattle.runs.specs.Runs.{State, Ran, Made, unmade, told_after}

-- an index in state s was given calls, which were made and stand with their results; was asked a question; was delivered d, and then
-- was in state t; and was asked again
pub record Tried (s : State) (given made : List Call) (q : Question) (path : ModPath) (d : Delivery) (o : Outcome) (t : State) : Type 0 where
  pub calls : map unmade made ≡ map unmade given
  pub ran : Ran s (made ++ Deliver d (Some o.further) ∷ []) t
  pub before : o.before ≡ answered (told_after s.view made) q path.kind path.names.items
  pub after : o.after ≡ answered t.view q path.kind path.names.items

-- the same of the index itself: the calls and then the delivery made the one of the other, by the index's own rule
abbrev pub MadeWith : {I : Type 0} → (I → Delivery → Result Bool IndexFault → I → Type 0) → I → List Call → Delivery → Outcome → I → Type 0
MadeWith Delivers x made d o y = Made Delivers x (made ++ Deliver d (Some o.further) ∷ []) y
