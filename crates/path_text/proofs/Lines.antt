-- The lines of a text, one after the other.
use Rattle.std.proofs.Common.{◌≡◌, ℕ, zero, suc, ◌+◌, ◌-◌, ◌<◌, not, eqb, ltb, List, [], ◌∷◌, length, get_or, take, drop, sym, refl, ap, ◌∙◌, inl, inr, suc-le-suc, le_of_suc-le-suc, not-suc-le-zero, add-one, arith, length-drop}
use Rattle.std.proofs.lemmas.List.{get_or-drop, get_or_default, drop_all}
use Rattle.std.proofs.lemmas.Bool.{cases_lt, eq-eqb, ne_eqb, lt-ltb}
use Rattle.path_text.specs.Lists.{glue, lines_of, unfinished, OneLine, Split}

-- no line feed stands below m
abbrev pub NoFeed : List ℕ → ℕ → Type 0
NoFeed xs m = (k : ℕ) → k < m → get_or xs k 0 ≡ 10 → ⊥

no_lines : (xs : List ℕ) → NoFeed xs (length xs) → lines_of xs ≡ []
no_lines [] no-feed = refl
no_lines (x ∷ xs) no-feed = rw (ne_eqb x 10 (no-feed 0 (omega arith))) (ap (glue x) (no_lines xs (λ k l. no-feed (suc k) (suc-le-suc l))))

no_end : (xs : List ℕ) → NoFeed xs (length xs) → unfinished xs ≡ ltb 0 (length xs)
no_end [] no-feed = refl
no_end (x ∷ xs) no-feed =
    let last : ℕ = length (x ∷ xs) - 1 in
    let h : last < length (x ∷ xs) = omega arith in
    ap not (ne_eqb _ 10 (λ e. no-feed last h (get_or_default (x ∷ xs) last 0 10 h ∙ e))) ∙ sym (lt-ltb 0 (length (x ∷ xs)) (omega arith))

pub one_line : (xs : List ℕ) → NoFeed xs (length xs) → OneLine xs
one_line xs no-feed = record { none = no_lines xs no-feed; half = no_end xs no-feed }

next-line : (xs : List ℕ) (m : ℕ) → m < length xs → get_or xs m 0 ≡ 10 → NoFeed xs m → lines_of xs ≡ take m xs ∷ lines_of (drop (suc m) xs)
next-line [] m h e no-feed = absurd (not-suc-le-zero h)
next-line (x ∷ xs) zero h e no-feed = rw (eq-eqb x 10 e)
next-line (x ∷ xs) (suc m) h e no-feed = rw (ne_eqb x 10 (no-feed 0 (omega arith))) (ap (glue x) (next-line xs m (le_of_suc-le-suc h) e (λ k l. no-feed (suc k) (suc-le-suc l))))

-- past a line feed the text ends as it did
same_end : (xs : List ℕ) (m : ℕ) → m < length xs → get_or xs m 0 ≡ 10 → unfinished xs ≡ unfinished (drop (m + 1) xs)
same_end xs m h e =
    elim (cases_lt (m + 1) (length xs)) [
      | inl l ↦ ap (λ b. not (eqb b 10)) (sym (rw (length-drop (m + 1) xs) (get_or-drop (m + 1) xs _ 10 ∙ ap (λ k. get_or xs k 10) (omega arith))))
      | inr l ↦
          let at-end : length xs - 1 ≡ m = omega arith in
          rw (at-end, drop_all (m + 1) xs l) (ap (λ b. not (eqb b 10)) (get_or_default xs m 10 0 h ∙ e))
    ]

pub split : (xs : List ℕ) (m : ℕ) → m < length xs → get_or xs m 0 ≡ 10 → NoFeed xs m → Split xs (take m xs) (drop (m + 1) xs)
split xs m h e no-feed = record { lines = rw (add-one m) (next-line xs m h e no-feed); half = same_end xs m h e; shorter = simp length-drop (omega arith) }
