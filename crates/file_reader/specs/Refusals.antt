-- When a call refuses, and what the words of a statement have to be.
use Rattle.std.specs.Prelude.{◌≡◌, ℕ, ◌<◌, ◌^◌, List, Result}
use Rattle.std.specs.Result.{IfErr}
use Rattle.std.specs.Str.{IsUtf8}
use Rattle.file_reader.specs.Told.{Told}
use Rattle.hir_def.specs.declared.fault.Failure.{Failure}
use Rattle.hir_def.specs.Faults.{IfRefused}
use Rattle.path_text.specs.Grammar.{IsName}
use Rattle.troubles.specs.declared.trouble.Trouble.{Trouble}
use Rattle.troubles.specs.declared.trouble.Trouble.TheVariants.{Text, Tables}

-- P where a call refuses; want of memory is no refusal
abbrev pub OnRefused : {T R : Type 0} → Result T (Failure R) → Type 0 → Type 0
OnRefused r P = IfErr r (IfRefused (λ _. P))

-- a statement is wrong, and that is told in the line with that number
abbrev pub IsIn : ℕ → Trouble → Type 0
IsIn line (Text c) = c.line ≡ line
IsIn line (Tables f) = ⊥

-- where a call refuses, it tells so in that line
abbrev pub ToldAt : {T : Type 0} → ℕ → Result T (Failure Trouble) → Type 0
ToldAt line r = IfErr r (IfRefused (IsIn line))

-- nothing that could be told then is its outcome
abbrev pub NoOutcome : (Told → Type 0) → Type 0
NoOutcome P = (new : Told) → ¬ (P new)

-- a name that the list of names may have
abbrev pub IsListable : List ℕ → Type 0
IsListable w = IsName w × IsUtf8 w

-- the number of a row has 32 bits
abbrev pub IsRowNumber : ℕ → Type 0
IsRowNumber n = n < 2 ^ 32
