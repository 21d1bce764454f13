-- Steps that are made in turn, one for each of a list.
use Rattle.std.specs.Prelude.{List, [], ◌∷◌}

-- the steps for all of the list, in its order, lead from the one to the other
pub data InTurn {X C : Type 0} (Step : X → C → X → Type 0) : X → List C → X → Type 0 where
  done : {x : X} → InTurn Step x [] x
  next : {x y z : X} {c : C} {cs : List C} → Step x c y → InTurn Step y cs z → InTurn Step x (c ∷ cs) z
