-- Which words say no visibility.
use Rattle.std.proofs.Common.{◌≡◌, ◌≢◌, List, ℕ, [], inl, inr, Ok, Err, Result, sym, subst}
use Rattle.std.specs.Result.{IfErr}
use Rattle.source_text.specs.Words.{first_word, after_word}
use Rattle.statements.specs.Clauses.{Says}
use Rattle.statements.specs.Spelling.{word, MaySay}
use Rattle.statements.specs.declared.clauses.RawVisibility.{RawVisibility}

-- what holds whatever the error is
pub on_err : {T E P : Type 0} (r : Result T E) → P → IfErr r (λ _. P)
on_err (Ok x) p = tt
on_err (Err e) p = p

-- what follows where a call refuses
pub then_err : {T E P Q : Type 0} (r : Result T E) → (P → Q) → IfErr r (λ _. P) → IfErr r (λ _. Q)
then_err (Ok x) f h = tt
then_err (Err e) f h = f h

-- a word, and what stands after it, that say no visibility
module _ (text w rest : List ℕ) (first : w ≡ word 0 text) (after : rest ≡ after_word text) where
  pub no_says : ((vis : RawVisibility) → ¬ (Says w (first_word rest) vis))
      → (vis : RawVisibility) → ¬ (Says (word 0 text) (word 1 text) vis)
  no_says none vis h =
      let next = subst (λ (t : List ℕ). Says (word 0 text) (first_word t) vis) (sym after) h in
      none vis (subst (λ (v : List ℕ). Says v (first_word rest) vis) (sym first) next)

  no_may_say : word 0 text ≢ [] → ((vis : RawVisibility) → ¬ (Says w (first_word rest) vis))
      → (vis : RawVisibility) → ¬ (MaySay vis text)
  no_may_say some none vis (inl h) = no_says none vis h
  no_may_say some none vis (inr h) = some h.0

  -- the same where a visibility may be missing, but a word comes
  pub may_not_say : {T E : Type 0} (r : Result T E) → word 0 text ≢ []
      → IfErr r (λ _. (vis : RawVisibility) → ¬ (Says w (first_word rest) vis))
      → IfErr r (λ _. (vis : RawVisibility) → ¬ (MaySay vis text))
  may_not_say (Ok x) some none = tt
  may_not_say (Err x) some none = no_may_say some none
