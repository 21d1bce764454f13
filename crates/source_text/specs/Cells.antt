-- What is shown of a text, cell by cell, and the column to which a terminal goes with it.
use Rattle.std.specs.Prelude.{ℕ, zero, suc, ◌+◌, ◌/◌, ◌%◌, ◌==◌, nat_lt, false, if◌then◌else◌, List, [], ◌∷◌, length, drop, replicate, Option, Some, None, unwrap_or}
use Rattle.std.specs.Fmt.{digit_glyph}
use Rattle.std.specs.List.{flat_map, fold}
use Rattle.bstr.specs.Utf8.{decoded}
use Rattle.unicode_width.specs.Width.{char_width}
use Rattle.source_text.specs.declared.cell.Cell.{Cell}
use Rattle.source_text.specs.declared.cell.Cell.TheVariants.{Tab, Char, Byte}

-- the columns that a character takes, none where it has no width
abbrev pub width_of : ℕ → ℕ
width_of c = unwrap_or (char_width false c) 0

-- the characters by which a cell is shown: itself, or `\x` and two digits
abbrev pub cell_chars : Cell → List ℕ
cell_chars Tab = 9 ∷ []
cell_chars (Char c) = c ∷ []
cell_chars (Byte b) = 92 ∷ 120 ∷ digit_glyph false (b / 16 % 16) ∷ digit_glyph false (b % 16) ∷ []

-- blanks as wide as a cell
abbrev pub cell_margin : Cell → List ℕ
cell_margin Tab = 9 ∷ []
cell_margin (Char c) = replicate (width_of c) 32
cell_margin (Byte b) = replicate 4 32

-- a character that has a width is a cell, and else its first byte
abbrev pub cell_of : ℕ → Option ℕ → ℕ → Cell × ℕ
cell_of b None size = (Byte b, 1)
cell_of b (Some c) size = if nat_lt 0 (width_of c) then (Char c, size) else (Byte b, 1)

-- the first cell of a text that begins so, and how many bytes it takes
abbrev pub front_cell : ℕ → List ℕ → Cell × ℕ
front_cell b bs = let d = decoded (b ∷ bs) in if b == 9 then (Tab, 1) else cell_of b d.char d.size

abbrev pub first_cell : List ℕ → Option (Cell × ℕ)
first_cell [] = None
first_cell (b ∷ bs) = Some (front_cell b bs)

-- the cells of a text; there are no more than `n` of them
abbrev pub cells_from : ℕ → List ℕ → List Cell
cells_from zero text = []
cells_from (suc n) [] = []
cells_from (suc n) (b ∷ bs) = let c = front_cell b bs in c.0 ∷ cells_from n (drop c.1 (b ∷ bs))

abbrev pub cells : List ℕ → List Cell
cells text = cells_from (length text) text

-- the characters by which a text is shown, and blanks as wide as it
abbrev pub shown : List ℕ → List ℕ
shown text = flat_map cell_chars (cells text)

abbrev pub margin : List ℕ → List ℕ
margin text = flat_map cell_margin (cells text)

-- the column to which a terminal goes with a character, and with a text; `tab` says to which it goes with a tab
abbrev pub next_column : (ℕ → ℕ) → ℕ → ℕ → ℕ
next_column tab at c = if c == 9 then tab at else at + width_of c

abbrev pub column_after : (ℕ → ℕ) → ℕ → List ℕ → ℕ
column_after tab at text = fold (next_column tab) at text
