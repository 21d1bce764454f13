-- One more item of a list was read.
use Rattle.std.proofs.Common.{◌≡◌, ℕ, ◌+◌, ◌<◌, Bool, true, false, cond, List, [], ◌∷◌, ◌++◌, length, get_or, take, refl, ap, ◌∙◌, sym}
use Rattle.std.specs.Prelude.{filter}
use Rattle.std.proofs.lemmas.List.{take_more}

filtered : {X : Type 0} (p : X → Bool) (xs : List X) (x : X) → filter p (xs ++ x ∷ []) ≡ filter p xs ++ cond (p x) (x ∷ []) []
filtered p [] x = refl
filtered p (y ∷ xs) x = elim (p y) as (λ b. cond b (y ∷ filter p (xs ++ x ∷ [])) (filter p (xs ++ x ∷ [])) ≡ cond b (y ∷ filter p xs) (filter p xs) ++ cond (p x) (x ∷ []) []) [
  | true ↦ ap (λ t. y ∷ t) (filtered p xs x)
  | false ↦ filtered p xs x
]

-- an item that passes
pub taken : {X : Type 0} (p : X → Bool) (xs : List X) (i : ℕ) (d : X) → i < length xs → (ys next : List X) → ys ≡ filter p (take i xs) → p (get_or xs i d) ≡ true → next ≡ ys ++ get_or xs i d ∷ [] → next ≡ filter p (take (i + 1) xs)
taken {X} p xs i d h ys next e t n =
    n ∙ ap (λ (s : List X). s ++ get_or xs i d ∷ []) e ∙ sym (ap (filter p) (take_more xs i d h) ∙ filtered p (take i xs) (get_or xs i d) ∙ ap (λ b. filter p (take i xs) ++ cond b (get_or xs i d ∷ []) []) t)

append_none : {X : Type 0} (xs : List X) → xs ++ [] ≡ xs
append_none [] = refl
append_none (x ∷ xs) = ap (λ t. x ∷ t) (append_none xs)

-- an item that does not
pub passed : {X : Type 0} (p : X → Bool) (xs : List X) (i : ℕ) (d : X) → i < length xs → (ys : List X) → ys ≡ filter p (take i xs) → p (get_or xs i d) ≡ false → ys ≡ filter p (take (i + 1) xs)
passed {X} p xs i d h ys e t =
    e ∙ sym (ap (filter p) (take_more xs i d h) ∙ filtered p (take i xs) (get_or xs i d) ∙ ap (λ b. filter p (take i xs) ++ cond b (get_or xs i d ∷ []) []) t ∙ append_none (filter p (take i xs)))
