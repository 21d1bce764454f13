-- The place of what is wrong with a file, as a person reads it.
use Rattle.std.specs.Prelude.{ℕ, ◌+◌, ◌-◌, ◌^◌, ◌==◌, min, List, [], ◌++◌, codes, decimal, Option, Some, None, unwrap_or}
use Rattle.std.specs.List.{slice_get, slice_split}
use Rattle.std.specs.Str.Lines.{strip_carriage_return}
use Rattle.source_text.specs.Excerpts.{excerpt_text}
use Rattle.troubles.specs.declared.complaint.Complaint.{Complaint}
use Rattle.troubles.specs.declared.trouble.Trouble.{Trouble}
use Rattle.troubles.specs.declared.trouble.Trouble.TheVariants.{Text, Tables}

-- The line of that number, from 1, where line feeds part the lines; empty where there is none. A carriage return before the
-- line feed is no part of it.
abbrev pub line_of : List ℕ → ℕ → List ℕ
line_of text line = strip_carriage_return (unwrap_or (slice_get (slice_split (λ b. b == 10) text) (line - 1)) [])

-- The column of a byte as people count, from 1. The largest number of 64 bits stands for more.
abbrev pub column_told : ℕ → ℕ
column_told column = min (column + 1) (2 ^ 64 - 1)

-- Line and column, what is wrong there, the line with a caret under the byte, and what was expected.
abbrev pub complaint_text : List ℕ → Complaint → List ℕ
complaint_text text c =
    codes ":" ++ (decimal c.line ++ (codes ":" ++ (decimal (column_told c.column) ++ (codes ": " ++ (c.problem.now ++ (codes "\n"
    ++ (excerpt_text (line_of text c.line) c.column ++ (codes "\nexpected " ++ (c.expected.now ++ codes "\n")))))))))

-- The file's name, and what is wrong with the text; of tables the sentence of their refusal is told, of which nothing is said here.
abbrev pub located_text : List ℕ → List ℕ → Trouble → Option (List ℕ)
located_text path text (Text c) = Some (path ++ complaint_text text c)
located_text path text (Tables f) = None
