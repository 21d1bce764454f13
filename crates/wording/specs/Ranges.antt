-- Ranges of modules, who is in one, and how many that are.
use Rattle.std.specs.Prelude.{◌≡◌, ◌<◌, ◌^◌, ℕ, Bool, true, List, ◌++◌, ◌==◌, length, codes, decimal, Ok, Err, Result}
use Rattle.hir_def.specs.declared.ModuleId.{ModuleId}
use Rattle.hir_def.specs.declared.fault.TreeFault.{TreeFault}
use Rattle.entries.specs.declared.visibility.Visibility.{Visibility}
use Rattle.entries.specs.declared.visibility.Visibility.TheVariants.{Module, PubCrate, Public}
use Rattle.entries.specs.Visibilities.{inside, settled}
use Rattle.nameres.specs.Shapes.{Shape}
use Rattle.wording.specs.declared.range.Range.{Range}
use Rattle.wording.specs.declared.range.Range.TheVariants.{All, Crate, Inside}

abbrev pub range_of : Shape → Visibility → Range
range_of t Public = All
range_of t (PubCrate c) = Crate c
range_of t (Module m mark) = Inside (settled t m)

abbrev pub in_range : Shape → Range → ModuleId → Bool
in_range t All m = true
in_range t (Crate c) m = (t.crate_of m).0 == c.0
in_range t (Inside n) m = inside t n m

-- the crate's root, or the module that all others are inside
abbrev pub named_by : Shape → Range → ModuleId
named_by t All = record { 0 = 0 }
named_by t (Crate c) = t.crate_root c
named_by t (Inside m) = m

abbrev pub range_text : Range → List ℕ
range_text All = codes "all"
range_text (Crate c) = codes "crate " ++ decimal c.0
range_text (Inside m) = codes "inside " ++ decimal m.0

-- its number is one that a program can tell
abbrev pub Told : Range → Type 0
Told All = Unit {0}
Told (Crate c) = c.0 < 2 ^ 32
Told (Inside m) = m.0 < 2 ^ 32

-- no other range is written as this text
abbrev pub ToldApart : Range → List ℕ → Type 0
ToldApart r text = (s : Range) → Told s → range_text s ≡ text → s ≡ r

-- how many a list has, where there is one
abbrev pub counted : Result (List ModuleId) TreeFault → Result ℕ TreeFault
counted (Ok ms) = Ok (length ms)
counted (Err f) = Err f
