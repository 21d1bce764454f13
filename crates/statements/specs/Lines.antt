-- The line that the words of a statement stand in, and in which it is told what is wrong.
use Rattle.std.specs.Prelude.{◌≡◌, ⊤, ℕ, Option, IfSome, Result, IfErr}
use Rattle.source_text.specs.declared.words.Word.{Word}
use Rattle.statements.specs.declared.asking.Asking.{Asking}
use Rattle.statements.specs.declared.clauses.RawVisibility.{RawVisibility}
use Rattle.statements.specs.declared.clauses.RawVisibility.TheVariants as raw
use Rattle.statements.specs.declared.clauses.Site.{Site}
use Rattle.statements.specs.declared.statement.Statement.{Statement}
use Rattle.statements.specs.declared.statement.Statement.TheVariants as statement
use Rattle.troubles.specs.declared.complaint.Complaint.{Complaint}

-- the word, if there is one, is of the line with that number
abbrev pub WordStandsIn : ℕ → Option Word → Type 0
WordStandsIn line o = IfSome o (λ w. w.line ≡ line)

-- the module that the visibility names, if it names one
abbrev pub VisibilityStandsIn : ℕ → RawVisibility → Type 0
VisibilityStandsIn line (raw.In m) = m.line ≡ line
VisibilityStandsIn line vis = ⊤

-- the name, the module and the visibility
abbrev pub SiteStandsIn : ℕ → Site → Type 0
SiteStandsIn line s = (s.name.line ≡ line) × (s.«module».line ≡ line) × VisibilityStandsIn line s.vis

-- the module that asks, if one does
abbrev pub AskingStandsIn : ℕ → Option Asking → Type 0
AskingStandsIn line o = IfSome o (λ a. a.«module».line ≡ line)

-- each word that the statement has is of the line with that number
abbrev pub StandsIn : ℕ → Statement → Type 0
StandsIn line (statement.Crate name edition) = name.line ≡ line
StandsIn line (statement.Module name vis) = (name.line ≡ line) × VisibilityStandsIn line vis
StandsIn line (statement.Block name) = name.line ≡ line
StandsIn line (statement.Item site) = SiteStandsIn line site
StandsIn line (statement.Defined k site) = SiteStandsIn line site
StandsIn line (statement.Variant name shape) = name.line ≡ line
StandsIn line (statement.LegacyMacro name at meant) = (name.line ≡ line) × (at.line ≡ line) × WordStandsIn line meant
StandsIn line (statement.Use b full site) = (full.line ≡ line) × SiteStandsIn line site
StandsIn line (statement.ExternPrelude name within meant) = (name.line ≡ line) × (within.line ≡ line) × (meant.line ≡ line)
StandsIn line (statement.MacroUse name within meant) = (name.line ≡ line) × (within.line ≡ line) × (meant.line ≡ line)
StandsIn line (statement.Prelude at within) = (at.line ≡ line) × (within.line ≡ line)
StandsIn line (statement.Path path asking) = (path.line ≡ line) × AskingStandsIn line asking
StandsIn line (statement.Model name below) = (name.line ≡ line) × WordStandsIn line below

-- the first word too, where there is a statement
abbrev pub AllStandIn : ℕ → Option (Word × Statement) → Type 0
AllStandIn line o = IfSome o (λ p. (p.0.line ≡ line) × StandsIn line p.1)

-- what is wrong is told in that line
abbrev pub ToldIn : {T : Type 0} → ℕ → Result T Complaint → Type 0
ToldIn line r = IfErr r (λ c. c.line ≡ line)
