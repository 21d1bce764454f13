-- What is written of an excerpt, part by part.
use Rattle.std.proofs.Common.{◌≡◌, ℕ, Bool, true, false, not, nat_le, List, ◌++◌, length, codes, refl, ap, ◌∙◌, encode_utf8_all}
use Rattle.std.proofs.lemmas.Str.{encodes-append}
use Rattle.std.specs.Char.{encode_utf8}
use Rattle.source_text.specs.Cells.{shown, margin}
use Rattle.source_text.specs.Excerpts.{dots, end_of, start_of, shown_before, shown_after, caret_margin}

plain_dots : (b : Bool) → encode_utf8_all (dots b) ≡ dots b
unfolding encode_utf8
plain_dots true = refl
plain_dots false = refl

-- four blanks and two texts
indented : (x y : List ℕ) → encode_utf8_all (codes "    " ++ x ++ y) ≡ codes "    " ++ encode_utf8_all x ++ encode_utf8_all y
unfolding encode_utf8
indented x y = encodes-append (codes "    " ++ x) y

pub before_encoded : (text : List ℕ) → encode_utf8_all (shown_before text) ≡ codes "    " ++ dots (not (nat_le (length text) 80)) ++ encode_utf8_all (shown (end_of text))
unfolding shown_before
before_encoded text =
    let left = dots (not (nat_le (length text) 80)) in
    indented left (shown (end_of text)) ∙ ap (λ l. codes "    " ++ l ++ encode_utf8_all (shown (end_of text))) (plain_dots (not (nat_le (length text) 80)))

pub after_encoded : (text : List ℕ) → encode_utf8_all (shown_after text) ≡ encode_utf8_all (shown (start_of text)) ++ dots (not (nat_le (length text) 100))
unfolding shown_after
after_encoded text =
    let right = dots (not (nat_le (length text) 100)) in
    encodes-append (shown (start_of text)) right ∙ ap (λ r. encode_utf8_all (shown (start_of text)) ++ r) (plain_dots (not (nat_le (length text) 100)))

pub margin_encoded : (text : List ℕ) → encode_utf8_all (caret_margin text) ≡ codes "    " ++ encode_utf8_all (margin (dots (not (nat_le (length text) 80)))) ++ encode_utf8_all (margin (end_of text))
unfolding caret_margin
margin_encoded text = indented (margin (dots (not (nat_le (length text) 80)))) (margin (end_of text))
