-- Which texts are names.
use Rattle.std.proofs.Common.{◌≡◌, ℕ, zero, suc, ◌<◌, true, false, List, [], ◌∷◌, length, get_or, sym, ◌∙◌, subst, arith}
use Rattle.std.proofs.lemmas.List.{take_all}
use Rattle.path_text.specs.declared.segment.WordKind.TheVariants.{Name}
use Rattle.path_text.specs.Bytes.{inner}
use Rattle.path_text.specs.Grammar.{Inners, IsName}
use Rattle.path_text.specs.Segments.{word_of}
use Rattle.path_text.proofs.Cut.{inners-take}
use Rattle.path_text.proofs.Follow.{Means, means, no, letter-inners}

-- one word of that kind
pub named : (w : List ℕ) → ((k : ℕ) → k < length w → inner (get_or w k 0) ≡ true) → word_of w ≡ Name → IsName w
named w f e = subst (λ k. Means k w) e (means w (subst Inners (take_all (length w) w (omega arith)) (inners-take w (length w) (omega arith) f)))

-- a word with a tail
pub tailed : {X : Type 0} (w : List ℕ) (k : ℕ) → k < length w → inner (get_or w k 0) ≡ false → IsName w → X
tailed w k h e n = no (sym e ∙ at w k h (letter-inners w n.word))
  where
    at : (w : List ℕ) (k : ℕ) → k < length w → Inners w → inner (get_or w k 0) ≡ true
    at [] k h i = absurd (omega arith)
    at (b ∷ w) zero h i = i.0
    at (b ∷ w) (suc k) h i = at w k (omega arith) i.1
