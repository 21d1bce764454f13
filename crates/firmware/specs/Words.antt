-- Which word tells a row of the tables.
use Rattle.std.specs.Prelude.{ℕ, ◌-◌, List, [], ◌∷◌, length, None, Option, if◌then◌else◌, nat_le, vec_items}
use Rattle.std.specs.Option.{option_or}
use Rattle.std.specs.List.{slice_get}
use Rattle.source_text.specs.declared.words.Word.{Word}
use Rattle.firmware.specs.declared.tables.IndexRows.{IndexRows}

-- the word at a position of lists that stand one after the other
abbrev pub word_in : List (List Word) → ℕ → Option Word
word_in [] at = None
word_in (words ∷ rest) at = option_or (slice_get words at) (word_in rest (at - length words))

-- the words that tell rows, table by table, in the order in which a load counts rows
abbrev pub words_of : IndexRows → List (List Word)
words_of t = vec_items t.extern_prelude.words ∷ vec_items t.macro_use.words ∷ vec_items t.preludes.words ∷ vec_items t.legacy.words ∷ vec_items t.variants.words ∷ []

-- the word of a row, which a load counts after the three counts
abbrev pub word_at : IndexRows → ℕ → Option Word
word_at t row = if nat_le 3 row then word_in (words_of t) (row - 3) else None
