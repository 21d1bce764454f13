-- A piece of a text takes a byte at least, and no more than there are; and a cell is written as its characters are.
use Rattle.std.proofs.Common.{◌≡◌, ℕ, zero, suc, replicate, ◌-◌, ◌/◌, ◌%◌, ◌^◌, ◌<◌, ◌≤◌, false, List, [], ◌∷◌, ◌++◌, length, arith, refl, sym, ◌∙◌, ap, codes, encode_utf8_all}
use Rattle.std.proofs.lemmas.Fmt.{hex_byte}
use Rattle.std.proofs.lemmas.Grind.{common_steps}
use Rattle.std.proofs.lemmas.Str.{encode_ascii}
use Rattle.std.proofs.lemmas.List.{append-nil}
use Rattle.std.specs.Char.{encode_utf8}
use Rattle.std.specs.Fmt.{digit_glyph, digits, padded_integral, padded, take_chars, char_count, format_spec}
use Rattle.std.specs.List.{repeat}
use Rattle.bstr.specs.Utf8.{decoded}
use Rattle.bstr.proofs.lemmas.PieceLemmas.{piece-bounds}
use Rattle.source_text.specs.Cells.{cell_chars}
use Rattle.source_text.specs.declared.cell.Cell.TheVariants.{Byte}

pub size_bounds : (bs : List ℕ) → 0 < length bs → (0 < (decoded bs).size) × ((decoded bs).size ≤ length bs)
size_bounds bs h = let b = piece-bounds bs h in (omega (arith, b.0), b.2)

pub one_char : (c : ℕ) → encode_utf8_all (c ∷ []) ≡ encode_utf8 c
one_char c = append-nil (encode_utf8 c)

small_glyph : (d : ℕ) → d < 16 → digit_glyph false d < 128
small_glyph d h = grind (arith, common_steps)

two_glyphs : (x y : ℕ) → x < 128 → y < 128 → encode_utf8_all (x ∷ y ∷ []) ≡ x ∷ y ∷ []
two_glyphs x y h k = rw (encode_ascii x h, encode_ascii y k) refl

pub escape : (b : ℕ) → b < 256 → encode_utf8_all (cell_chars (Byte b)) ≡ codes "\\x" ++ padded_integral (format_spec 32 0 4 2 (2 ^ 64 - 1)) false [] (digits 16 false b)
unfolding encode_utf8
escape b h =
    let same : b / 16 % 16 ≡ b / 16 = omega arith in
    rw (hex_byte false b h, same) (ap (λ t. 92 ∷ 120 ∷ t) (two_glyphs _ _ (small_glyph (b / 16) (omega arith)) (small_glyph (b % 16) (omega arith))))

plain_blanks : (n : ℕ) → repeat {A = ℕ} n (32 ∷ []) ≡ replicate n 32
plain_blanks zero = refl
plain_blanks (suc n) = ap (λ t. 32 ∷ t) (plain_blanks n)

encoded_blanks : (n : ℕ) → encode_utf8_all (replicate n 32) ≡ replicate n 32
unfolding encode_utf8
encoded_blanks zero = refl
encoded_blanks (suc n) = ap (λ t. 32 ∷ t) (encoded_blanks n)

pub blanks : (n : ℕ) → padded (format_spec 32 0 0 n (2 ^ 64 - 1)) [] ≡ encode_utf8_all (replicate n 32)
unfolding padded take_chars char_count encode_utf8
blanks n = let none : n - 0 - 0 ≡ n = omega arith in rw none (plain_blanks n ∙ sym (encoded_blanks n))

pub four_blanks : encode_utf8_all (replicate 4 32) ≡ codes "    "
four_blanks = encoded_blanks 4
