-- The first bad row, counted through one table after the other.
use Rattle.std.proofs.Common.{◌≡◌, ℕ, ◌+◌, ◌-◌, ◌<◌, ◌≤◌, Bool, true, length, Some, None, ap, ◌∙◌, subst, inl, inr, arith}
use Rattle.std.proofs.lemmas.Bool.{cases_lt, lt-ltb, le-ltb, false≢true}
use Rattle.nameres.specs.Rows.{Rows, good_modules, good_blocks, good_crates, in_turn, good_rest, good_row, row_count, FirstBad}

module _ (f g : ℕ → Bool) (n : ℕ) where
  pub turn-left : (k : ℕ) → k < n → in_turn f n g k ≡ f k
  turn-left k h = rw (lt-ltb k n h)

  turn-right : (k : ℕ) → n ≤ k → in_turn f n g k ≡ g (k - n)
  turn-right k h = rw (le-ltb k n h)

  pub turn-past : (j : ℕ) → in_turn f n g (n + j) ≡ g j
  turn-past j = turn-right (n + j) (omega arith) ∙ ap g (let e : (n + j) - n ≡ j = omega arith in e)

  -- both fronts good: f's first n and g's first j
  turn-front : (j k : ℕ) → ((i : ℕ) → i < n → f i ≡ true) → ((i : ℕ) → i < j → g i ≡ true) → k < n + j → in_turn f n g k ≡ true
  turn-front j k a b h =
      elim (cases_lt k n) [
        | inl l ↦ turn-left k l ∙ a k l
        | inr l ↦ turn-right k l ∙ b (k - n) (omega arith)
      ]

  pub bad-left : (m i : ℕ) → FirstBad f n (Some i) → FirstBad (in_turn f n g) (n + m) (Some i)
  bad-left m i (l, e, a) =
      (omega arith, turn-left i l ∙ e, λ k h. let kn : k < n = omega arith in turn-left k kn ∙ a k h)

  pub bad-right : (m j : ℕ) → FirstBad f n None → FirstBad g m (Some j) → FirstBad (in_turn f n g) (n + m) (Some (n + j))
  bad-right m j a (l, e, b) = (omega arith, turn-past j ∙ e, λ k h. turn-front j k a b h)

  pub bad-none : (m : ℕ) → FirstBad f n None → FirstBad g m None → FirstBad (in_turn f n g) (n + m) None
  bad-none m a b k h = turn-front m k a b h

-- tests that fail from a limit on pass no more than the limit
within_none : (f : ℕ → Bool) (n limit : ℕ) → (f limit ≡ true → ⊥) → FirstBad f n None → n ≤ limit
within_none f n limit no_more a =
    elim (cases_lt limit n) [ inl l ↦ absurd (no_more (a limit l)) | inr l ↦ l ]

within-some : (f : ℕ → Bool) (n i limit : ℕ) → (f limit ≡ true → ⊥) → FirstBad f n (Some i) → i ≤ limit
within-some f n i limit no_more b =
    elim (cases_lt limit i) [ inl h ↦ absurd (no_more (b.2 limit h)) | inr h ↦ h ]

module _ (t : Rows) where
  pub in-modules : (i : ℕ) → FirstBad (good_modules t) (length t.modules) (Some i) → FirstBad (good_row t) (row_count t) (Some i)
  in-modules i b = bad-left (good_modules t) (good_rest t) _ _ i b

  module _ (a : FirstBad (good_modules t) (length t.modules) None) where
    few-modules : length t.modules ≤ 4096
    few-modules = within_none (good_modules t) _ 4096 false≢true a

    pub in_blocks : (j : ℕ) → FirstBad (good_blocks t) (length t.blocks) (Some j) → FirstBad (good_row t) (row_count t) (Some (length t.modules + j))
    in_blocks j b = bad-right (good_modules t) (good_rest t) _ _ j a (bad-left (good_blocks t) (good_crates t) _ _ j b)

    pub blocks-fit : (j : ℕ) → FirstBad (good_blocks t) (length t.blocks) (Some j) → length t.modules + j ≤ 5120
    blocks-fit j b = omega (arith, few-modules, within-some (good_blocks t) _ j 1024 false≢true b)

    module _ (b : FirstBad (good_blocks t) (length t.blocks) None) where
      few-blocks : length t.blocks ≤ 1024
      few-blocks = within_none (good_blocks t) _ 1024 false≢true b

      pub tables-fit : length t.modules + length t.blocks ≤ 5120
      tables-fit = omega (arith, few-modules, few-blocks)

      pub in-crates : (j : ℕ) → FirstBad (good_crates t) (length t.crates) (Some j) → FirstBad (good_row t) (row_count t) (Some (length t.modules + length t.blocks + j))
      in-crates j d =
          subst (λ k. FirstBad (good_row t) (row_count t) (Some k)) (let e : length t.modules + (length t.blocks + j) ≡ length t.modules + length t.blocks + j = omega arith in e)
          (bad-right (good_modules t) (good_rest t) _ _ _ a (bad-right (good_blocks t) (good_crates t) _ _ j b d))

      pub crates-fit : (j : ℕ) → FirstBad (good_crates t) (length t.crates) (Some j) → length t.modules + length t.blocks + j ≤ 5184
      crates-fit j d = omega (arith, tables-fit, within-some (good_crates t) _ j 64 false≢true d)

      pub in-none : FirstBad (good_crates t) (length t.crates) None → FirstBad (good_row t) (row_count t) None
      in-none d = bad-none (good_modules t) (good_rest t) _ _ a (bad-none (good_blocks t) (good_crates t) _ _ b d)
