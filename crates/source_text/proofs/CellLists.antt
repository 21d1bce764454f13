-- The cells of a text one by one.
use Rattle.std.proofs.Common.{◌≡◌, ℕ, zero, suc, ◌<◌, ◌≤◌, ◌==◌, false, true, nat_lt, if◌then◌else◌, Bool, List, [], ◌∷◌, ◌++◌, length, drop, Option, Some, None, arith, refl, ◌∙◌, ap, encode_utf8_all, length-drop}
use Rattle.std.specs.List.{flat_map}
use Rattle.std.proofs.lemmas.Str.{encodes-append}
use Rattle.bstr.specs.Utf8.{decoded}
use Rattle.source_text.specs.declared.cell.Cell.{Cell}
use Rattle.source_text.specs.declared.cell.Cell.TheVariants.{Tab, Char, Byte}
use Rattle.source_text.specs.Cells.{cell_of, front_cell, first_cell, cells_from, cells, cell_chars, cell_margin, shown, margin, width_of}
use Rattle.source_text.proofs.Cells.{size_bounds}

abbrev Fits : ℕ → Cell × ℕ → Type 0
Fits n c = (0 < c.1) × (c.1 ≤ n)

pick : (t : Bool) (x y : Cell × ℕ) (n : ℕ) → Fits n x → Fits n y → Fits n (if t then x else y)
pick true x y n h k = h
pick false x y n h k = k

sized : (b : ℕ) (o : Option ℕ) (size n : ℕ) → 0 < size → size ≤ n → Fits n (cell_of b o size)
sized b None size n h k = (omega arith, omega arith)
sized b (Some c) size n h k = pick (nat_lt 0 (width_of c)) (Char c, size) (Byte b, 1) n (h, k) (omega arith, omega arith)

pub front_bounds : (b : ℕ) (bs : List ℕ) → Fits (length (b ∷ bs)) (front_cell b bs)
front_bounds b bs =
    let some : 0 < length (b ∷ bs) = omega arith in
    let d = size_bounds (b ∷ bs) some in
    pick (b == 9) (Tab, 1) (cell_of b (decoded (b ∷ bs)).char (decoded (b ∷ bs)).size) (length (b ∷ bs)) (omega arith, omega arith)
    (sized b (decoded (b ∷ bs)).char (decoded (b ∷ bs)).size (length (b ∷ bs)) d.0 d.1)

more : (n m : ℕ) (text : List ℕ) → length text ≤ n → length text ≤ m → cells_from n text ≡ cells_from m text
more zero zero [] h k = refl
more zero (suc m) [] h k = refl
more (suc n) zero [] h k = refl
more (suc n) (suc m) [] h k = refl
more zero m (b ∷ bs) h k = absurd (omega arith)
more (suc n) zero (b ∷ bs) h k = absurd (omega arith)
more (suc n) (suc m) (b ∷ bs) h k =
    let f = front_bounds b bs in
    let left = length-drop (front_cell b bs).1 (b ∷ bs) in
    ap (λ cs. (front_cell b bs).0 ∷ cs) (more n m (drop (front_cell b bs).1 (b ∷ bs)) (omega (arith, left, f.0, f.1)) (omega (arith, left, f.0, f.1)))

pub cells_step : (text : List ℕ) (c : Cell) (size : ℕ) → first_cell text ≡ Some (c, size) → cells text ≡ c ∷ cells (drop size text)
cells_step [] c size e = cc
cells_step (b ∷ bs) c size e =
    let same : front_cell b bs ≡ (c, size) = cc in
    let f = front_bounds b bs in
    let left = length-drop (front_cell b bs).1 (b ∷ bs) in
    ap (λ cs. (front_cell b bs).0 ∷ cs) (more (length bs) (length (drop (front_cell b bs).1 (b ∷ bs))) (drop (front_cell b bs).1 (b ∷ bs)) (omega (arith, left, f.0, f.1)) (omega arith))
    ∙ ap (λ p. p.0 ∷ cells (drop p.1 (b ∷ bs))) same

pub shown_step : (text : List ℕ) (c : Cell) (size : ℕ) → first_cell text ≡ Some (c, size) → encode_utf8_all (shown text) ≡ encode_utf8_all (cell_chars c) ++ encode_utf8_all (shown (drop size text))
shown_step text c size e = ap (λ cs. encode_utf8_all (flat_map cell_chars cs)) (cells_step text c size e) ∙ encodes-append (cell_chars c) (shown (drop size text))

pub margin_step : (text : List ℕ) (c : Cell) (size : ℕ) → first_cell text ≡ Some (c, size) → encode_utf8_all (margin text) ≡ encode_utf8_all (cell_margin c) ++ encode_utf8_all (margin (drop size text))
margin_step text c size e = ap (λ cs. encode_utf8_all (flat_map cell_margin cs)) (cells_step text c size e) ∙ encodes-append (cell_margin c) (margin (drop size text))

pub none_left : (text : List ℕ) → first_cell text ≡ None → text ≡ []
none_left [] e = refl
none_left (b ∷ bs) e = cc
