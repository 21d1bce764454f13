-- The words of a line: runs of bytes without blanks.
use Rattle.std.specs.Prelude.{◌≡◌, ◌≢◌, ℕ, ◌+◌, Bool, not, ◌||◌, ◌==◌, List, [], drop, Option, MatchOption}
use Rattle.std.specs.List.{position_or_len, before_first, list_all}
use Rattle.source_text.specs.declared.words.Word.{Word}

abbrev pub is_blank : ℕ → Bool
is_blank b = b == 32 || (b == 9 || b == 13)

-- how many blanks a text begins with
abbrev pub blanks : List ℕ → ℕ
blanks text = position_or_len (λ b. not (is_blank b)) text

-- the first word of a text: what comes before a blank, after the first blanks; empty where there is none
abbrev pub first_word : List ℕ → List ℕ
first_word text = before_first is_blank (drop (blanks text) text)

-- what comes after the first word
abbrev pub after_word : List ℕ → List ℕ
after_word text = let from = drop (blanks text) text in drop (position_or_len is_blank from) from

-- the first word of a text and its place, where the text stands at that place; there is none exactly where all are blanks
abbrev pub NextWord : List ℕ → ℕ → ℕ → Option Word → Type 0
NextWord text line column o =
    MatchOption o (first_word text ≡ []) (λ w. (w.text.now ≡ first_word text) × (w.line ≡ line) × (w.column ≡ column + blanks text) × (first_word text ≢ []))

-- whether a text has no such byte
abbrev pub lacks : ℕ → List ℕ → Bool
lacks c text = list_all (λ b. not (b == c)) text
