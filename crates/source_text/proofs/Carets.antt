-- The caret stands under the byte: blanks are as wide as what they stand for.
use Rattle.std.proofs.Common.{◌≡◌, ℕ, zero, suc, ◌+◌, ◌/◌, ◌%◌, ◌<◌, ◌==◌, false, true, not, nat_lt, nat_le, if◌then◌else◌, Bool, List, [], ◌∷◌, ◌++◌, length, drop, replicate, Option, Some, None, codes, arith, refl, sym, ◌∙◌, ap, add-zero}
use Rattle.std.specs.Fmt.{digit_glyph}
use Rattle.std.specs.List.{flat_map}
use Rattle.std.proofs.lemmas.Grind.{common_steps}
use Rattle.bstr.specs.Utf8.{decoded}
use Rattle.unicode_width.specs.Width.{char_width}
use Rattle.source_text.specs.declared.cell.Cell.{Cell}
use Rattle.source_text.specs.declared.cell.Cell.TheVariants.{Tab, Char, Byte}
use Rattle.source_text.specs.Cells.{cell_of, front_cell, cells_from, cell_chars, cell_margin, shown, margin, width_of, next_column, column_after}
use Rattle.source_text.specs.Excerpts.{dots, before, end_of, shown_before, caret_margin, CaretUnder}

append : (tab : ℕ → ℕ) (at : ℕ) (xs ys : List ℕ) → column_after tab at (xs ++ ys) ≡ column_after tab (column_after tab at xs) ys
append tab at [] ys = refl
append tab at (x ∷ xs) ys = append tab (next_column tab at x) xs ys

one_wide : (c : ℕ) → 31 < c → c < 127 → width_of c ≡ 1
unfolding char_width
one_wide c h k = grind (arith, common_steps)

plain : (tab : ℕ → ℕ) (at c : ℕ) → 31 < c → c < 127 → next_column tab at c ≡ at + 1
plain tab at c h k = let w = one_wide c h k in grind (arith, common_steps)

blanks : (tab : ℕ → ℕ) (at n : ℕ) → column_after tab at (replicate n 32) ≡ at + n
blanks tab at zero = sym (add-zero at)
blanks tab at (suc n) = ap (λ k. column_after tab k (replicate n 32)) (plain tab at 32 (omega arith) (omega arith)) ∙ blanks tab (at + 1) n ∙ omega arith

glyph : (d : ℕ) → d < 16 → (31 < digit_glyph false d) × (digit_glyph false d < 127)
glyph d h = grind (arith, common_steps)

escape : (tab : ℕ → ℕ) (at b : ℕ) → column_after tab at (cell_chars (Byte b)) ≡ at + 4
escape tab at b =
    let x = digit_glyph false (b / 16 % 16) in
    let y = digit_glyph false (b % 16) in
    let h = glyph (b / 16 % 16) (omega arith) in
    let k = glyph (b % 16) (omega arith) in
    ap (λ n. next_column tab (next_column tab (next_column tab n 120) x) y) (plain tab at 92 (omega arith) (omega arith))
    ∙ ap (λ n. next_column tab (next_column tab n x) y) (plain tab (at + 1) 120 (omega arith) (omega arith))
    ∙ ap (λ n. next_column tab n y) (plain tab (at + 1 + 1) x h.0 h.1)
    ∙ plain tab (at + 1 + 1 + 1) y k.0 k.1
    ∙ omega arith

no_tab : (c : ℕ) → nat_lt 0 (width_of c) ≡ true → (c == 9) ≡ false
unfolding char_width
no_tab c h = grind (arith, common_steps)

char : (tab : ℕ → ℕ) (at c : ℕ) → nat_lt 0 (width_of c) ≡ true → column_after tab at (cell_margin (Char c)) ≡ column_after tab at (cell_chars (Char c))
char tab at c h = blanks tab at (width_of c) ∙ rw (no_tab c h) refl

byte : (tab : ℕ → ℕ) (at b : ℕ) → column_after tab at (cell_margin (Byte b)) ≡ column_after tab at (cell_chars (Byte b))
byte tab at b = blanks tab at 4 ∙ sym (escape tab at b)

abbrev Alike : (ℕ → ℕ) → ℕ → Cell → Type 0
Alike tab at c = column_after tab at (cell_margin c) ≡ column_after tab at (cell_chars c)

abbrev pick : Bool → Cell × ℕ → Cell × ℕ → Cell × ℕ
pick t x y = if t then x else y

sized : (tab : ℕ → ℕ) (at b : ℕ) (o : Option ℕ) (size : ℕ) → Alike tab at (cell_of b o size).0
sized tab at b None size = byte tab at b
sized tab at b (Some c) size =
    let P : Bool → Type 0 = λ t. nat_lt 0 (width_of c) ≡ t → Alike tab at (pick t (Char c, size) (Byte b, 1)).0 in
    (elim (nat_lt 0 (width_of c)) as P [ true ↦ λ h. char tab at c h | false ↦ λ h. byte tab at b ]) refl

front : (tab : ℕ → ℕ) (at b : ℕ) (bs : List ℕ) → Alike tab at (front_cell b bs).0
front tab at b bs =
    let d = decoded (b ∷ bs) in
    elim (b == 9) as (λ t. Alike tab at (pick t (Tab, 1) (cell_of b d.char d.size)).0) [ true ↦ refl | false ↦ sized tab at b d.char d.size ]

all_alike : (tab : ℕ → ℕ) (at n : ℕ) (text : List ℕ) → column_after tab at (flat_map cell_margin (cells_from n text)) ≡ column_after tab at (flat_map cell_chars (cells_from n text))
all_alike tab at zero text = refl
all_alike tab at (suc n) [] = refl
all_alike tab at (suc n) (b ∷ bs) =
    let c = front_cell b bs in
    let rest = cells_from n (drop c.1 (b ∷ bs)) in
    append tab at (cell_margin c.0) (flat_map cell_margin rest)
    ∙ ap (λ k. column_after tab k (flat_map cell_margin rest)) (front tab at b bs)
    ∙ all_alike tab (column_after tab at (cell_chars c.0)) n (drop c.1 (b ∷ bs))
    ∙ sym (append tab at (cell_chars c.0) (flat_map cell_chars rest))

pub as_wide : (tab : ℕ → ℕ) (at : ℕ) (text : List ℕ) → column_after tab at (margin text) ≡ column_after tab at (shown text)
as_wide tab at text = all_alike tab at (length text) text

dots_shown : (b : Bool) → shown (dots b) ≡ dots b
unfolding char_width
dots_shown true = refl
dots_shown false = refl

-- blanks as wide as two texts, after some characters
two : (tab : ℕ → ℕ) (front x y : List ℕ) → column_after tab 0 (front ++ margin x ++ margin y) ≡ column_after tab 0 (front ++ shown x ++ shown y)
two tab front x y =
    append tab 0 (front ++ margin x) (margin y)
    ∙ as_wide tab (column_after tab 0 (front ++ margin x)) y
    ∙ ap (λ k. column_after tab k (shown y)) (append tab 0 front (margin x) ∙ as_wide tab (column_after tab 0 front) x ∙ sym (append tab 0 front (shown x)))
    ∙ sym (append tab 0 (front ++ shown x) (shown y))

under : (text : List ℕ) (tab : ℕ → ℕ) → column_after tab 0 (caret_margin text) ≡ column_after tab 0 (shown_before text)
unfolding shown_before caret_margin
under text tab =
    let left = not (nat_le (length text) 80) in
    two tab (codes "    ") (dots left) (end_of text) ∙ ap (λ l. column_after tab 0 (codes "    " ++ l ++ shown (end_of text))) (dots_shown left)

pub caret_under : (line : List ℕ) (column : ℕ) → CaretUnder line column
caret_under line column = under (before line column)
