-- The numbers of names, written one after the other.
use Rattle.std.proofs.Common.{◌≡◌, ℕ, ◌+◌, ◌<◌, ◌≤◌, List, [], ◌∷◌, ◌++◌, length, get_or, take, refl, ap, sym, ◌∙◌, append_assoc}
use Rattle.std.specs.Fmt.{decimal}
use Rattle.std.proofs.lemmas.List.{take_more, take_all, append-nil}
use Rattle.hir_def.specs.declared.Name.{Name}
use Rattle.std.specs.Prelude.{codes}
use Rattle.paths.specs.Shown.{each_after}
use Rattle.paths.specs.Told.{named, each_named}

one_more : (b : List ℕ) (xs : List Name) (y : Name) → each_after b (xs ++ y ∷ []) ≡ each_after b xs ++ (b ++ decimal y.0)
one_more b [] y = simp (append_assoc, append-nil) refl
one_more b (x ∷ xs) y = rw (one_more b xs y) (sym (append_assoc (b ++ decimal x.0) (each_after b xs) (b ++ decimal y.0)))

pub number_more : (b : List ℕ) (xs : List Name) (i : ℕ) (d : Name) → i < length xs → each_after b (take (i + 1) xs) ≡ each_after b (take i xs) ++ (b ++ decimal (get_or xs i d).0)
number_more b xs i d h = ap (each_after b) (take_more xs i d h) ∙ one_more b (take i xs) (get_or xs i d)

pub number_all : (b : List ℕ) (xs : List Name) (i : ℕ) → length xs ≤ i → each_after b (take i xs) ≡ each_after b xs
number_all b xs i h = ap (each_after b) (take_all i xs h)

one_named : (ls : List (List ℕ)) (xs : List Name) (y : Name) → each_named ls (xs ++ y ∷ []) ≡ each_named ls xs ++ (codes ", " ++ named ls y)
one_named ls [] y = simp (append_assoc, append-nil) refl
one_named ls (x ∷ xs) y = rw (one_named ls xs y) (sym (append_assoc (codes ", " ++ named ls x) (each_named ls xs) (codes ", " ++ named ls y)))

pub named_more : (ls : List (List ℕ)) (xs : List Name) (i : ℕ) (d : Name) → i < length xs → each_named ls (take (i + 1) xs) ≡ each_named ls (take i xs) ++ (codes ", " ++ named ls (get_or xs i d))
named_more ls xs i d h = ap (each_named ls) (take_more xs i d h) ∙ one_named ls (take i xs) (get_or xs i d)

pub named_all : (ls : List (List ℕ)) (xs : List Name) (i : ℕ) → length xs ≤ i → each_named ls (take i xs) ≡ each_named ls xs
named_all ls xs i h = ap (each_named ls) (take_all i xs h)
