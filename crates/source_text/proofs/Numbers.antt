-- What a text of digits is read as.
use Rattle.std.proofs.Common.{◌≡◌, ◌≢◌, ℕ, zero, suc, ◌+◌, ◌-◌, ◌*◌, ◌<◌, ◌^◌, true, false, List, [], ◌∷◌, length, get_or, None, Ok, Err, Result, arith, rules, sym, refl, ◌⊎◌, inl, inr}
use Rattle.std.specs.Fmt.{decimal}
use Rattle.std.specs.Result.{result_ok, OkIff}
use Rattle.std.specs.Str.{all_ascii_digits}
use Rattle.std.specs.Str.Parse.{ParsesUnsigned}
use Rattle.std.proofs.lemmas.Grind.{common_steps}
use Rattle.std.proofs.lemmas.Str.Parse.{IsNumeralModel, numerals_by_fold, parse_plain}
use Rattle.std.proofs.lemmas.Fmt.{parse-decimal, decimal-digits_value, first_decimal, decimal_digit, decimal_nonempty}
use Rattle.source_text.specs.Numbers.{is_plain, Plain}

abbrev read_on : ℕ → List ℕ → ℕ
read_on n [] = n
read_on n (c ∷ cs) = read_on (10 * n + (c - 48)) cs

own : IsNumeralModel (λ ds. all_ascii_digits ds ≡ true) (read_on 0)
own = numerals_by_fold _ (search rules) read_on (search rules)

-- what stands in front of a number's text
front : (n : ℕ) → n < 2 ^ 32 → ((decimal n ≡ 48 ∷ []) ⊎ (48 < get_or (decimal n) 0 0))
front zero h = inl (decimal_digit 0 (omega arith))
front (suc n) h = inr (first_decimal (suc n) (omega arith) (omega arith))

decimal_is_plain : (n : ℕ) → n < 2 ^ 32 → is_plain (decimal n) ≡ true
decimal_is_plain n h = elim (front n h) [
  | inl e ↦ rw e refl
  | inr l ↦ let p : 0 < length (decimal n) = decimal_nonempty n (omega arith) in grind (arith, common_steps)
]

pub not_plain : (t : List ℕ) → is_plain t ≡ false → Plain t None
not_plain t e n h d = let p : is_plain t ≡ true = rw d (decimal_is_plain n h) in cc

plain_parts : (t : List ℕ) → is_plain t ≡ true → (0 < length t) × (get_or t 0 0 ≢ 43) × (get_or t 0 0 ≡ 48 → length t ≡ 1)
plain_parts t e = grind (arith, common_steps)

plain_ok : (E : Type 0) (t : List ℕ) (n : ℕ) → is_plain t ≡ true → ParsesUnsigned {E = E} 32 10 t (Ok n) → (n < 2 ^ 32) × (t ≡ decimal n)
plain_ok E t n e h =
    let parts = plain_parts t e in
    let k : OkIff {E = E} (Ok n) ((all_ascii_digits t ≡ true) × (0 < length t) × (read_on 0 t < 2 ^ 32)) (read_on 0 t) = parse_plain own {E = E} 32 t (Ok n) h parts.1 in
    let v : read_on 0 t ≡ n = sym k.1 in
    let d : decimal (read_on 0 t) ≡ t = decimal-digits_value own t k.0.0 k.0.1 parts.2 (omega (arith, k.0.2)) in
    (rw (← v) k.0.2, rw (← v) (sym d))

plain_err : (E : Type 0) (t : List ℕ) (x : E) → ParsesUnsigned {E = E} 32 10 t (Err x) → (n : ℕ) → n < 2 ^ 32 → ¬ (t ≡ decimal n)
plain_err E t x h n l d =
    let r : Result ℕ E = Err x in
    let k : r ≡ Ok n = parse-decimal 32 n t r l (omega arith) d h in cc

pub plain : {E : Type 0} → (t : List ℕ) (r : Result ℕ E) → is_plain t ≡ true → ParsesUnsigned 32 10 t r → Plain t (result_ok r)
plain {E = E} t (Ok n) e h = plain_ok E t n e h
plain {E = E} t (Err x) e h = plain_err E t x h
