-- The text of a number has digits alone.
use Rattle.std.proofs.Common.{◌≡◌, ℕ, ◌+◌, ◌%◌, ◌<◌, ◌^◌, ◌⊎◌, ◌==◌, not, true, List, [], ◌∷◌, ◌++◌, arith}
use Rattle.std.specs.Fmt.{decimal}
use Rattle.std.proofs.lemmas.Fmt.{decimal_by_steps}
use Rattle.std.proofs.lemmas.Grind.{common_steps}
use Rattle.std.proofs.lemmas.List.Folds.{list_all-append}
use Rattle.source_text.specs.Words.{lacks}

one_digit : (c d : ℕ) → (c < 48) ⊎ (57 < c) → d < 10 → lacks c ((48 + d) ∷ []) ≡ true
one_digit c d h k = grind (arith, common_steps)

pub both : (c : ℕ) (xs ys : List ℕ) → lacks c xs ≡ true → lacks c ys ≡ true → lacks c (xs ++ ys) ≡ true
both c xs ys h k = grind (arith, common_steps, list_all-append (λ b. not (b == c)) xs ys)

pub decimal_lacks : (c n : ℕ) → (c < 48) ⊎ (57 < c) → n < 2 ^ 32 → lacks c (decimal n) ≡ true
decimal_lacks c n h l =
    decimal_by_steps (λ n ds. lacks c ds ≡ true) (λ d k. one_digit c d h k) (λ d ds k e. both c ds ((48 + d % 10) ∷ []) e (one_digit c (d % 10) h (omega arith))) n (omega arith)
