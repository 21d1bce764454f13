-- One more step is made after the others.
use Rattle.std.proofs.Common.{List, [], ◌∷◌, ◌++◌}
use Rattle.item_scope.specs.InTurn.{InTurn}
use Rattle.item_scope.specs.InTurn.InTurn.{done, next}

pub one_more : {X C : Type 0} {Step : X → C → X → Type 0} {x y z : X} {cs : List C} (c : C) → InTurn Step x cs y → Step y c z → InTurn Step x (cs ++ c ∷ []) z
one_more c done s = next s done
one_more c (next t r) s = next t (one_more c r s)
