-- One more path was asked.
use Rattle.std.proofs.Common.{◌≡◌, ℕ, ◌+◌, ◌<◌, List, [], ◌∷◌, ◌++◌, length, get_or, take, map, ap, ◌∙◌, sym}
use Rattle.std.proofs.lemmas.List.{take_more, map-append}

pub mapped : {X Y : Type 0} (f : X → Y) (xs : List X) (i : ℕ) (d : X) → i < length xs → (ys next : List Y) → ys ≡ map f (take i xs) → next ≡ ys ++ f (get_or xs i d) ∷ [] → next ≡ map f (take (i + 1) xs)
mapped {X} {Y} f xs i d h ys next e n =
    n ∙ ap (λ (t : List Y). t ++ f (get_or xs i d) ∷ []) e ∙ sym (ap (map f) (take_more xs i d h) ∙ map-append f (take i xs) (get_or xs i d ∷ []))
