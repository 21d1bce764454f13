-- A name list's table takes in one more line.
use Rattle.std.proofs.Common.{◌≡◌, ℕ, suc, ◌+◌, Bool, true, false, cond, List, [], ◌∷◌, ◌++◌, length, Some, None, Option, is_some, sym, refl, ap, ◌∙◌, add-zero, arith, inl, inr}
use Rattle.std.specs.Borrow.{Bor}
use Rattle.std.specs.Ordering.{nat_cmp}
use Rattle.std.specs.Cmp.Lexicographic.{slice_cmp}
use Rattle.std.specs.BTreeMap as tree
use Rattle.std.specs.BTreeMap.{BTreeMap}
use Rattle.std.specs.Option.{option_or}
use Rattle.std.specs.Str.{bytes_eq}
use Rattle.std.proofs.lemmas.Bool.{cases_Bool}
use Rattle.std.proofs.lemmas.Map.Text.{btree_map_updates_str}
use Rattle.std.proofs.lemmas.Slice.Eq.{bytes_eq-Decides}
use Rattle.hir_def.specs.declared.Name.{Name}
use Rattle.path_text.specs.Lists.{first, as_name}
use Rattle.path_text.specs.Numbers.{IsNumbered, Numbers}

first-push : (ls : List (List ℕ)) (w q : List ℕ) (i : ℕ) → as_name (first (ls ++ w ∷ []) q i) ≡ option_or (as_name (first ls q i)) (cond (bytes_eq w q) (Some (record { 0 = i + length ls })) None)
first-push [] w q i = elim (cases_Bool (bytes_eq w q)) [ inl e ↦ rw (e, add-zero i) | inr e ↦ rw e ]
first-push (l ∷ ls) w q i =
    elim (cases_Bool (bytes_eq l q)) [
      | inl e ↦ rw e
      | inr e ↦
          let z : (i + 1) + length ls ≡ i + suc (length ls) = omega arith in
          rw e (first-push ls w q (i + 1) ∙ ap (λ n. option_or (as_name (first ls q (i + 1))) (cond (bytes_eq w q) (Some (record { 0 = n })) None)) z)
    ]

module _ (m : BTreeMap (Bor (List ℕ)) Name) where
  -- the list's table takes it in as the list does
  pub grown : (ls : List (List ℕ)) (w : List ℕ) (m' : BTreeMap (Bor (List ℕ)) Name) → IsNumbered ls m → Numbers m w (record { 0 = length ls }) m' → IsNumbered (ls ++ w ∷ []) m'
  grown ls w m' h u q =
      u q ∙ ap (λ o. option_or o (cond (bytes_eq w q) (Some (record { 0 = length ls })) None)) (h q)
      ∙ sym (first-push ls w q 0 ∙ ap (λ n. option_or (as_name (first ls q 0)) (cond (bytes_eq w q) (Some (record { 0 = n })) None)) (let z : 0 + length ls ≡ length ls = omega arith in z))

  -- a line that had none
  pub anew : (w : List ℕ) (n : Name) (m' : BTreeMap (Bor (List ℕ)) Name) → is_some (tree.get_by (λ k. slice_cmp nat_cmp w k.now) m) ≡ false → tree.UpdatesBy (λ x y. slice_cmp nat_cmp x.now y.now) (λ k. slice_cmp nat_cmp w k.now) m m' (Some n) → Numbers m w n m'
  anew w n m' e u q =
      btree_map_updates_str w m m' (Some n) u q
      ∙ at (tree.get_by (λ k. slice_cmp nat_cmp q k.now) m) (bytes_eq w q) (λ s. ap (λ (t : List ℕ). is_some (tree.get_by (λ k. slice_cmp nat_cmp t k.now) m)) (sym ((bytes_eq-Decides w q).0 s)) ∙ e)
    where
      at : (o : Option Name) (b : Bool) → (b ≡ true → is_some o ≡ false) → cond b (Some n) o ≡ option_or o (cond b (Some n) None)
      at (Some k) false h = refl
      at None b h = refl
      at (Some k) true h = let f = h refl in cc
