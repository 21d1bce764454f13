-- The verdict on an item.
use Rattle.std.specs.Prelude.{Bool, true, false, Option, Some, None}
use Rattle.cuts.specs.declared.reached.Reason.{Reason}
use Rattle.cuts.specs.declared.verdict.Verdict.{Verdict}
use Rattle.cuts.specs.declared.verdict.Verdict.TheVariants.{Kept, Cut}

abbrev pub verdict_of : Option Reason → Verdict
verdict_of None = Cut
verdict_of (Some r) = Kept r

abbrev pub is_kept : Option Reason → Bool
is_kept None = false
is_kept (Some r) = true

abbrev pub is_cut : Option Reason → Bool
is_cut None = true
is_cut (Some r) = false
