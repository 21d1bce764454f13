-- A delivery is read where its import is.
use Rattle.std.proofs.Common.{List, [], ◌∷◌, ℕ, map, get_or, None}
use Rattle.std.specs.Borrow.{Bor}
use Rattle.world_commands.specs.Words.{ReadAs, IsImport}
use Rattle.world_commands.specs.Commands.{IsDelivery}

pub no_import : (fields : List (Bor (List ℕ))) (d : Bor (List ℕ)) → ReadAs IsImport (get_or fields 5 d).now None → ReadAs IsDelivery (map (λ f. f.now) fields) None
unfolding IsDelivery
no_import (m ∷ n ∷ t ∷ v ∷ x ∷ i ∷ []) d h it s = h it.import s.2
no_import [] d h it s = s
no_import (m ∷ []) d h it s = s
no_import (m ∷ n ∷ []) d h it s = s
no_import (m ∷ n ∷ t ∷ []) d h it s = s
no_import (m ∷ n ∷ t ∷ v ∷ []) d h it s = s
no_import (m ∷ n ∷ t ∷ v ∷ x ∷ []) d h it s = s
no_import (m ∷ n ∷ t ∷ v ∷ x ∷ i ∷ y ∷ more) d h it s = s
