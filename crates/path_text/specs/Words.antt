-- Words with what stands between them.
use Rattle.std.specs.Prelude.{◌≡◌, ℕ, false, List, [], ◌∷◌, ◌++◌}
use Rattle.path_text.specs.Bytes.{inner}

-- each word with `::` after it
abbrev pub closed : List (List ℕ) → List ℕ
closed [] = []
closed (w ∷ l) = w ++ 58 ∷ 58 ∷ closed l

-- no byte that goes on with a word comes first
abbrev pub NoInner : List ℕ → Type 0
NoInner [] = Unit {0}
NoInner (b ∷ bs) = inner b ≡ false
