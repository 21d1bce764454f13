-- The first line that is a name, found by going down a list.
use Rattle.std.proofs.Common.{◌≡◌, ℕ, suc, ◌+◌, ◌<◌, List, [], ◌∷◌, Some, None, Option, sym, ap, ◌∙◌, subst, ◌-◌, add-zero, zero-add, inl, inr, arith, MatchOption}
use Rattle.std.proofs.lemmas.Slice.Eq.{bytes_eq-Decides}
use Rattle.std.proofs.lemmas.Bool.{cases_Bool, cases_lt, both_ways}
use Rattle.std.specs.List.{slice_get}
use Rattle.std.specs.Str.{bytes_eq}
use Rattle.hir_def.specs.declared.Name.{Name}
use Rattle.path_text.specs.Lists.{Never, FirstAt, first, as_name, IsLineAt}

-- no number below i has it, and none below the next if i has it not
abbrev pub Below : (ℕ → Type 0) → ℕ → Type 0
Below P i = (k : ℕ) → k < i → P k → ⊥

pub below-next : (P : ℕ → Type 0) (i : ℕ) → Below P i → (P i → ⊥) → Below P (i + 1)
below-next P i b none k h p =
    elim (cases_lt k i) [
      | inl l ↦ b k l p
      | inr l ↦ let e : k ≡ i = omega arith in none (subst P e p)
    ]

-- the lines from i on
abbrev pub From : List (List ℕ) → List (List ℕ) → ℕ → Type 0
From all ls i = (k : ℕ) → slice_get all (i + k) ≡ slice_get ls k

module _ (all : List (List ℕ)) (l : List ℕ) (ls : List (List ℕ)) (i : ℕ) (f : From all (l ∷ ls) i) where
  pub here : slice_get all i ≡ Some l
  here = ap (slice_get all) (sym (add-zero i)) ∙ f 0

  pub on : From all ls (i + 1)
  on k = ap (slice_get all) (let e : (i + 1) + k ≡ i + suc k = omega arith in e) ∙ f (suc k)

pub whole : (ls : List (List ℕ)) → From ls ls 0
whole ls k = ap (slice_get ls) (zero-add k)

search-from : (all : List (List ℕ)) (t : List ℕ) (ls : List (List ℕ)) (i : ℕ) → From all ls i → Below (IsLineAt all t) i → MatchOption (first ls t i) (Never (IsLineAt all t)) (FirstAt (IsLineAt all t))
search-from all t [] i f b = λ k p.
    elim (cases_lt k i) [
      | inl l ↦ b k l p
      | inr l ↦
          let e : k ≡ i + (k - i) = omega arith in
          let none = ap (slice_get all) e ∙ f (k - i) in
          let z : ◌≡◌ {A = ℕ} 0 1 = cc in omega arith
    ]
search-from all t (l ∷ ls) i f b =
    let same = bytes_eq-Decides l t in
    let at = here all l ls i f in
    elim (cases_Bool (bytes_eq l t)) [
      | inl e ↦ rw e (at ∙ ap Some (same.0 e), b)
      | inr e ↦ rw e (search-from all t ls (i + 1) (on all l ls i f) (below-next (IsLineAt all t) i b (λ p. let s : l ≡ t = cc in both_ways (bytes_eq l t) e (same.1 s))))
    ]

pub found_first : (ls : List (List ℕ)) (t : List ℕ) → MatchOption (first ls t 0) (Never (IsLineAt ls t)) (FirstAt (IsLineAt ls t))
found_first ls t = search-from ls t ls 0 (whole ls) (λ k h. absurd (omega arith))

pub numbered : (ls : List (List ℕ)) (t : List ℕ) (r : Option Name) → r ≡ as_name (first ls t 0) → MatchOption r (Never (IsLineAt ls t)) (λ n. FirstAt (IsLineAt ls t) n.0)
numbered ls t r e = subst (λ (o : Option Name). MatchOption o (Never (IsLineAt ls t)) (λ n. FirstAt (IsLineAt ls t) n.0)) (sym e) (named (first ls t 0) (found_first ls t))
  where
    named : (o : Option ℕ) → MatchOption o (Never (IsLineAt ls t)) (FirstAt (IsLineAt ls t)) → MatchOption (as_name o) (Never (IsLineAt ls t)) (λ n. FirstAt (IsLineAt ls t) n.0)
    named None none = none
    named (Some i) f = f
