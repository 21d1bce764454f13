-- One more number was looked at, of those from a on and before b.
use Rattle.std.proofs.Common.{◌≡◌, ℕ, ◌+◌, ◌-◌, ◌<◌, ◌≤◌, suc, List, [], ◌∷◌, ◌++◌, Option, Some, None, map, arith, ap, ◌∙◌, sym}
use Rattle.std.specs.List.{cons_option, filter_map, range_with_len}
use Rattle.std.specs.Option.{option_map}
use Rattle.std.proofs.lemmas.List.{map-append, append_assoc, append-nil}
use Rattle.cuts.specs.declared.asked.Ask.{Ask}
use Rattle.model_runs.specs.Parts.{Asking, asking}

first : (a b : ℕ) → a < b → range_with_len a (b - a) ≡ a ∷ range_with_len (a + 1) (b - (a + 1))
first a b h =
    let e : b - a ≡ suc (b - (a + 1)) = omega arith in
    ap (range_with_len a) e

none : (a b : ℕ) → b ≤ a → range_with_len a (b - a) ≡ []
none a b h =
    let e : b - a ≡ 0 = omega arith in
    ap (range_with_len a) e

module _ (h : ℕ → Option Asking) (xs : List Ask) (a b : ℕ) (all : List Asking) (k : map asking xs ++ filter_map h (range_with_len a (b - a)) ≡ all) where
  pub pushed : (ys : List Ask) (ask : Ask) (o : Option Ask) → a < b → o ≡ Some ask → option_map asking o ≡ h a → ys ≡ xs ++ ask ∷ [] → map asking ys ++ filter_map h (range_with_len (a + 1) (b - (a + 1))) ≡ all
  pushed ys ask o l s e n =
      let rest = filter_map h (range_with_len (a + 1) (b - (a + 1))) in
      let t : h a ≡ Some (asking ask) = sym e ∙ ap (option_map asking) s in
      let m : filter_map h (range_with_len a (b - a)) ≡ asking ask ∷ rest = ap (filter_map h) (first a b l) ∙ ap (λ (z : Option Asking). cons_option z rest) t in
      let u : map asking ys ≡ map asking xs ++ asking ask ∷ [] = ap (map asking) n ∙ map-append asking xs (ask ∷ []) in
      ap (λ (z : List Asking). z ++ rest) u ∙ append_assoc (map asking xs) (asking ask ∷ []) rest ∙ ap (λ (z : List Asking). map asking xs ++ z) (sym m) ∙ k

  pub passed : (ys : List Ask) (o : Option Ask) → a < b → o ≡ None → option_map asking o ≡ h a → ys ≡ xs → map asking ys ++ filter_map h (range_with_len (a + 1) (b - (a + 1))) ≡ all
  passed ys o l s e n =
      let t : h a ≡ None = sym e ∙ ap (option_map asking) s in
      let rest = filter_map h (range_with_len (a + 1) (b - (a + 1))) in
      let m : filter_map h (range_with_len a (b - a)) ≡ rest = ap (filter_map h) (first a b l) ∙ ap (λ (z : Option Asking). cons_option z rest) t in
      ap (λ (z : List Ask). map asking z ++ rest) n ∙ ap (λ (z : List Asking). map asking xs ++ z) (sym m) ∙ k

  pub ended : b ≤ a → map asking xs ≡ all
  ended l =
      let m : filter_map h (range_with_len a (b - a)) ≡ [] = ap (filter_map h) (none a b l) in
      sym (append-nil (map asking xs)) ∙ ap (λ (z : List Asking). map asking xs ++ z) (sym m) ∙ k
