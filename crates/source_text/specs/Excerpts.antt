-- A line as a person sees it, with a caret under one of its bytes.
use Rattle.std.specs.Prelude.{◌≡◌, ℕ, ◌+◌, ◌-◌, min, ◌==◌, nat_le, bit_and, Bool, not, if◌then◌else◌, List, [], ◌++◌, length, take, drop, codes, encode_utf8_all, unwrap_or}
use Rattle.std.specs.List.{position}
use Rattle.source_text.specs.Cells.{shown, margin, column_after}

-- the byte may go on with a character
abbrev pub goes_on : ℕ → Bool
goes_on b = bit_and b 0xC0 == 0x80

-- the first place from there on where a character may begin
abbrev pub cut : List ℕ → ℕ → ℕ
cut text from = from + unwrap_or (position (λ b. not (goes_on b)) (take 3 (drop from text))) 0

-- dots for what is left out
abbrev pub dots : Bool → List ℕ
dots left_out = if left_out then codes "..." else []

-- what is shown of a text before the caret, and of one from the caret on
abbrev pub end_of : List ℕ → List ℕ
end_of text = if nat_le (length text) 80 then text else drop (cut text (length text - 60)) text

abbrev pub start_of : List ℕ → List ℕ
start_of text = if nat_le (length text) 100 then text else take (cut text 80) text

-- a line before a byte of it, and from it on; past the end the line is before it
unfoldable pub before : List ℕ → ℕ → List ℕ
before line column = take (min column (length line)) line

unfoldable pub after : List ℕ → ℕ → List ℕ
after line column = drop (min column (length line)) line

-- the characters that are shown of such texts, and those that stand before the caret
unfoldable pub shown_before : List ℕ → List ℕ
shown_before text = codes "    " ++ dots (not (nat_le (length text) 80)) ++ shown (end_of text)

unfoldable pub shown_after : List ℕ → List ℕ
shown_after text = shown (start_of text) ++ dots (not (nat_le (length text) 100))

unfoldable pub caret_margin : List ℕ → List ℕ
caret_margin text = codes "    " ++ margin (dots (not (nat_le (length text) 80))) ++ margin (end_of text)

-- the line, and the caret below it
abbrev pub excerpt_text : List ℕ → ℕ → List ℕ
excerpt_text line column =
    encode_utf8_all (shown_before (before line column)) ++ encode_utf8_all (shown_after (after line column)) ++ codes "\n" ++ encode_utf8_all (caret_margin (before line column)) ++ codes "^"

-- on every terminal, the caret stands at the column to which what is shown before that byte goes
abbrev pub CaretUnder : List ℕ → ℕ → Type 0
CaretUnder line column = (tab : ℕ → ℕ) → column_after tab 0 (caret_margin (before line column)) ≡ column_after tab 0 (shown_before (before line column))
