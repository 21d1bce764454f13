-- The columns at which the words of a statement stand.
use Rattle.std.specs.Prelude.{◌≡◌, ⊤, ℕ, ◌+◌, ◌-◌, ◌^◌, min, List, length, drop, Option, IfSome, Result, IfErr, MatchBool, MatchOption}
use Rattle.source_text.specs.Words.{blanks, after_word}
use Rattle.source_text.specs.declared.words.Word.{Word}
use Rattle.source_text.specs.declared.words.Words.{Words}
use Rattle.statements.specs.Names.{last_colons}
use Rattle.statements.specs.Spelling.{after_words, renames, after_import_name}
use Rattle.statements.specs.declared.asking.Asking.{Asking}
use Rattle.statements.specs.declared.clauses.RawVisibility.{RawVisibility}
use Rattle.statements.specs.declared.clauses.RawVisibility.TheVariants as raw
use Rattle.statements.specs.declared.clauses.Site.{Site}
use Rattle.statements.specs.declared.statement.Statement.{Statement}
use Rattle.statements.specs.declared.statement.Statement.TheVariants as statement
use Rattle.troubles.specs.declared.complaint.Complaint.{Complaint}

-- the column at which a line ends
abbrev pub end_of : Words → ℕ
end_of words = words.column + length words.rest.now

-- what stands of a text from the word on that comes after its first k words
abbrev pub from_word : ℕ → List ℕ → List ℕ
from_word k text = let rest = after_words k text in drop (blanks rest) rest

-- The word that comes after the first k words of a text that ends at that column: from its own column on as many bytes come
-- as from that word on.
abbrev pub IsAt : Word → ℕ → ℕ → List ℕ → Type 0
IsAt w k end text = w.column + length (from_word k text) ≡ end

-- the word, if there is one
abbrev pub MayBeAt : Option Word → ℕ → ℕ → List ℕ → Type 0
MayBeAt o k end text = IfSome o (λ w. IsAt w k end text)

-- the module that the visibility names, if it names one
abbrev pub VisibilityAt : RawVisibility → ℕ → ℕ → List ℕ → Type 0
VisibilityAt (raw.In m) k end text = IsAt m k end text
VisibilityAt vis k end text = ⊤

-- the name, the module and the visibility of `NAME in MODULE VISIBILITY`
abbrev pub SiteAt : Site → ℕ → List ℕ → Type 0
SiteAt s end text = IsAt s.name 0 end text × IsAt s.«module» 2 end text × VisibilityAt s.vis 4 end text

-- the module of `from MODULE`, which is word k
abbrev pub AskingAt : Option Asking → ℕ → ℕ → List ℕ → Type 0
AskingAt o k end text = IfSome o (λ a. IsAt a.«module» k end text)

-- The column so many bytes further on. The largest number of 64 bits stands for more.
abbrev pub further : ℕ → ℕ → ℕ
further column n = min (column + n) (2 ^ 64 - 1)

-- the name after the last `::` stands behind these in its full name
abbrev pub LastNameAt : Word → Word → Type 0
LastNameAt full name =
    MatchOption (last_colons full.text.now) (name.column ≡ full.column) (λ k. name.column ≡ further full.column (k + 2))

-- the name of an import, after the full one: the word after `as`, or else it stands in the full one
abbrev pub ImportNameAt : Word → Word → ℕ → List ℕ → Type 0
ImportNameAt full name end text = MatchBool (renames text) (IsAt name 1 end text) (LastNameAt full name)

-- `FULL in MODULE VISIBILITY` or `FULL as NAME in MODULE VISIBILITY`
abbrev pub ImportAt : Word → Site → ℕ → List ℕ → Type 0
ImportAt full s end text =
    IsAt full 0 end text × ImportNameAt full s.name end (after_word text)
    × IsAt s.«module» 1 end (after_import_name (after_word text))
    × VisibilityAt s.vis 3 end (after_import_name (after_word text))

-- each word that the statement has, where these words come after its first one
abbrev pub StandsAt : ℕ → List ℕ → Statement → Type 0
StandsAt end text (statement.Crate name edition) = IsAt name 0 end text
StandsAt end text (statement.Module name vis) = IsAt name 0 end text × VisibilityAt vis 2 end text
StandsAt end text (statement.Block name) = IsAt name 0 end text
StandsAt end text (statement.Item site) = SiteAt site end text
StandsAt end text (statement.Defined k site) = SiteAt site end text
StandsAt end text (statement.Variant name shape) = IsAt name 0 end text
StandsAt end text (statement.LegacyMacro name at meant) =
    IsAt name 0 end text × IsAt at 2 end text × MayBeAt meant 4 end text
StandsAt end text (statement.Use b full site) = ImportAt full site end text
StandsAt end text (statement.ExternPrelude name within meant) =
    IsAt name 0 end text × IsAt within 2 end text × IsAt meant 4 end text
StandsAt end text (statement.MacroUse name within meant) =
    IsAt name 0 end text × IsAt within 2 end text × IsAt meant 4 end text
StandsAt end text (statement.Prelude at within) = IsAt at 0 end text × IsAt within 2 end text
StandsAt end text (statement.Path path asking) = IsAt path 0 end text × AskingAt asking 2 end text
StandsAt end text (statement.Model name below) = IsAt name 0 end text × MayBeAt below 2 end text

-- the first word of the line too, where there is a statement
abbrev pub AllStandAt : ℕ → List ℕ → Option (Word × Statement) → Type 0
AllStandAt end line o = IfSome o (λ p. IsAt p.0 0 end line × StandsAt end (after_word line) p.1)

-- what is wrong is told at that column
abbrev pub ToldAt : {T : Type 0} → ℕ → Result T Complaint → Type 0
ToldAt column r = IfErr r (λ c. c.column ≡ column)

-- it is told at the next word of a text that ends at that column, or at its end where no word comes
abbrev pub ToldNext : {T : Type 0} → ℕ → List ℕ → Result T Complaint → Type 0
ToldNext end text r = IfErr r (λ c. c.column + length (from_word 0 text) ≡ end)
