-- Modules written one after the other.
use Rattle.std.proofs.Common.{◌≡◌, ℕ, ◌+◌, ◌<◌, ◌≤◌, List, [], ◌∷◌, ◌++◌, length, get_or, take, refl, ap, sym, ◌∙◌, append_assoc}
use Rattle.std.proofs.lemmas.List.{take_more, take_all, append-nil}
use Rattle.hir_def.specs.declared.ModuleId.{ModuleId}
use Rattle.wording.specs.Shown.{module_text, each_module}

one_more : (ns : List (List ℕ)) (b : List ℕ) (xs : List ModuleId) (y : ModuleId) → each_module ns b (xs ++ y ∷ []) ≡ each_module ns b xs ++ (b ++ module_text ns y)
one_more ns b [] y = simp (append_assoc, append-nil) refl
one_more ns b (x ∷ xs) y = rw (one_more ns b xs y) (sym (append_assoc (b ++ module_text ns x) (each_module ns b xs) (b ++ module_text ns y)))

pub module_more : (ns : List (List ℕ)) (b : List ℕ) (xs : List ModuleId) (i : ℕ) (d : ModuleId) → i < length xs → each_module ns b (take (i + 1) xs) ≡ each_module ns b (take i xs) ++ (b ++ module_text ns (get_or xs i d))
module_more ns b xs i d h = ap (each_module ns b) (take_more xs i d h) ∙ one_more ns b (take i xs) (get_or xs i d)

pub module_all : (ns : List (List ℕ)) (b : List ℕ) (xs : List ModuleId) (i : ℕ) → length xs ≤ i → each_module ns b (take i xs) ≡ each_module ns b xs
module_all ns b xs i h = ap (each_module ns b) (take_all i xs h)
