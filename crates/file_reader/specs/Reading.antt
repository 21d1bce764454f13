-- What a file tells: what its lines tell, one after the other.
use Rattle.std.specs.Prelude.{◌≡◌, ◌⊎◌, ℕ, ◌+◌, ◌-◌, ◌^◌, ◌==◌, min, List, [], ◌∷◌, ◌++◌, length, Option, Some, None, IsTrue}
use Rattle.std.specs.List.{enumerate_from, slice_split}
use Rattle.file_reader.specs.Adding.{Adds}
use Rattle.file_reader.specs.Nothing.{IsNew}
use Rattle.file_reader.specs.Refusals.{IsIn, NoOutcome}
use Rattle.file_reader.specs.Told.{Told, told}
use Rattle.firmware.specs.declared.file.Firmware.{Firmware}
use Rattle.source_text.specs.declared.words.Word.{Word}
use Rattle.statements.specs.Columns.{AllStandAt}
use Rattle.statements.specs.Lines.{AllStandIn}
use Rattle.statements.specs.Spelling.{BeforeComment, IsRead, IsReadable, stands_below_models}
use Rattle.statements.specs.declared.statement.Statement.{Statement}
use Rattle.troubles.specs.declared.trouble.Trouble.{Trouble}

-- Once a model is told, only some statements may follow.
abbrev pub MayFollow : Statement → Told → Type 0
MayFollow s t = (t.models ≡ []) ⊎ IsTrue (stands_below_models s)

-- A line without a statement tells nothing.
abbrev pub AddsRead : Option (Word × Statement) → Told → Told → Type 0
AddsRead None old new = new ≡ old
AddsRead (Some p) old new = MayFollow p.1 old × Adds p.1 old new

-- A statement of the line with that number, whose words stand in that line, each at its column, or none.
abbrev pub IsReadAt : ℕ → List ℕ → Option (Word × Statement) → Type 0
IsReadAt number code o = IsRead code o × AllStandIn number o × AllStandAt (length code) code o

-- What the words of a line before its comment spell is added.
unfoldable pub ReadsLine : ℕ → List ℕ → Told → Told → Type 0
ReadsLine number line old new =
    (code : List ℕ) × (o : Option (Word × Statement)) × BeforeComment line code × IsReadAt number code o × AddsRead o old new

-- Lines count from 1. The largest number of 64 bits stands for more.
abbrev pub line_number : ℕ → ℕ
line_number before = min (before + 1) (2 ^ 64 - 1)

-- each line is read, with how many come before it in the file
unfoldable pub ReadsLines : Told → List (ℕ × List ℕ) → Told → Type 0
ReadsLines old [] new = new ≡ old
ReadsLines old (line ∷ more) new = (next : Told) × ReadsLine (line_number line.0) line.1 old next × ReadsLines next more new

-- A line feed parts the lines.
abbrev pub lines_of : List ℕ → List (ℕ × List ℕ)
lines_of text = enumerate_from 0 (slice_split (λ b. b == 10) text)

-- The first line is read where nothing is told yet, and the file tells what is told after the last.
unfoldable pub Reads : List ℕ → Firmware → Type 0
Reads text f =
    (first : Told) × (last : Told) × IsNew first × ReadsLines first (lines_of text) last
    × (last ≡ told f last.above last.declared last.model_numbers)

-- Why a line is refused: what stands before its comment is spelt by no statement, or is read as one that may not follow
-- or cannot be added.
unfoldable pub RefusesLine : ℕ → List ℕ → Told → Type 0
RefusesLine number line old =
    (code : List ℕ) × BeforeComment line code
    × ((¬ (IsReadable code))
    ⊎ ((o : Option (Word × Statement)) × IsReadAt number code o × NoOutcome (AddsRead o old)))

-- Why a file is refused: the lines before one of its lines are read from where nothing is told yet, and that line is refused. It is told in that line.
unfoldable pub RefusesFile : List ℕ → Trouble → Type 0
RefusesFile text trouble =
    (before : List (ℕ × List ℕ)) × (line : ℕ × List ℕ) × (after : List (ℕ × List ℕ)) × (first : Told) × (last : Told)
    × (lines_of text ≡ before ++ line ∷ after) × IsNew first × ReadsLines first before last × RefusesLine (line_number line.0) line.1 last
    × IsIn (line_number line.0) trouble
