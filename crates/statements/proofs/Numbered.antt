-- Which texts are no `#` with a number below 2^32.
use Rattle.std.proofs.Common.{◌≡◌, ℕ, ◌<◌, ◌^◌, List, [], ◌∷◌, ◌++◌, take, drop, false, nat_eq, codes, decimal, IsUtf8, arith, refl}
use Rattle.std.specs.Cmp.Lexicographic.{pointwise}
use Rattle.std.proofs.lemmas.Str.{IsUtf8-from_ascii}
use Rattle.std.proofs.lemmas.Fmt.{IsAscii-decimal}

-- no mark
pub without_mark : (text : List ℕ) → pointwise nat_eq (take 1 text) (35 ∷ []) ≡ false → (n : ℕ) → n < 2 ^ 32 → ¬ (text ≡ codes "#" ++ decimal n)
without_mark text h n l e = let k : pointwise nat_eq (take 1 (35 ∷ decimal n)) (35 ∷ []) ≡ false = rw e at h in cc

-- no text after it
pub without_text : (text digits : List ℕ) → digits ≡ drop 1 text → ¬ (IsUtf8 digits) → (n : ℕ) → n < 2 ^ 32 → ¬ (text ≡ codes "#" ++ decimal n)
without_text text digits d h n l e = h (rw (d, e) (IsUtf8-from_ascii (decimal n) (IsAscii-decimal n (omega arith))))

-- no number after it
pub without_number : (text digits : List ℕ) → digits ≡ drop 1 text → ((n : ℕ) → n < 2 ^ 32 → ¬ (digits ≡ decimal n)) → (n : ℕ) → n < 2 ^ 32 → ¬ (text ≡ codes "#" ++ decimal n)
without_number text digits d h n l e = h n l (rw (d, e) refl)
