-- What is written of a number in eight columns.
use Rattle.std.proofs.Common.{◌≡◌, ℕ, zero, suc, ◌-◌, ◌^◌, false, [], ◌∷◌, length, replicate, arith, refl, ap}
use Rattle.std.proofs.lemmas.List.{append-nil}
use Rattle.std.specs.Char.{encode_utf8}
use Rattle.std.specs.Fmt.{decimal, padded_integral, char_count, format_spec}
use Rattle.std.specs.List.{repeat}
use Rattle.wording.specs.Aligned.{aligned}

blanks : (n : ℕ) → repeat {A = ℕ} n (32 ∷ []) ≡ replicate n 32
blanks zero = refl
blanks (suc n) = ap (λ t. 32 ∷ t) (blanks n)

pub eight_columns : (n : ℕ) → aligned n ≡ padded_integral (format_spec 32 3 0 8 (2 ^ 64 - 1)) false [] (decimal n)
unfolding aligned padded_integral char_count encode_utf8
eight_columns n =
    let room = 8 - length (decimal n) in
    let short : room - 0 - 0 ≡ room = omega arith in
    let none : room - room ≡ 0 = omega arith in
    rw (short, none, blanks room) (simp append-nil)
