-- How many see what has a visibility, and which, where they are few.
use Rattle.std.specs.Prelude.{◌≡◌, ◌<◌, ◌≤◌, ℕ, List, length, Option, Some, None, Ok, Err, Result, vec_items}
use Rattle.std.specs.Global.{Vec}
use Rattle.hir_def.specs.declared.ModuleId.{ModuleId}
use Rattle.hir_def.specs.declared.fault.TreeFault.{TreeFault}
use Rattle.hir_def.specs.declared.fault.Failure.{Failure}
use Rattle.hir_def.specs.declared.fault.Failure.TheVariants.{Memory, Refused}
use Rattle.entries.specs.declared.visibility.Visibility.{Visibility}
use Rattle.nameres.specs.Shapes.{Shape}
use Rattle.wording.specs.declared.seen.Seen.{Seen}
use Rattle.wording.specs.Ranges.{range_of, named_by}

-- the modules themselves, if there are no more than `most`
abbrev pub Few : List ModuleId → ℕ → Option (Vec ModuleId) → Type 0
Few ms most None = most < length ms
Few ms most (Some v) = (length ms ≤ most) × (vec_items v ≡ ms)

-- refused as the list of them is; memory is wanting only for a list that is told
abbrev pub FewOf : Result (List ModuleId) TreeFault → ℕ → Result (Option (Vec ModuleId)) (Failure TreeFault) → Type 0
FewOf (Ok ms) most (Ok o) = Few ms most o
FewOf (Ok ms) most (Err (Memory e)) = length ms ≤ most
FewOf (Ok ms) most (Err (Refused f)) = ⊥
FewOf (Err g) most r = r ≡ Err (Refused g)

-- the range of the visibility, what names it, how many modules see, and which, where they are few
abbrev pub IsSeen : Shape → Visibility → List ModuleId → ℕ → Seen → Type 0
IsSeen t vis ms most s = (s.range ≡ range_of t vis) × (s.of ≡ named_by t (range_of t vis)) × (s.count ≡ length ms) × Few ms most s.seers

abbrev pub SeenOf : Shape → Visibility → Result (List ModuleId) TreeFault → ℕ → Result Seen (Failure TreeFault) → Type 0
SeenOf t vis (Ok ms) most (Ok s) = IsSeen t vis ms most s
SeenOf t vis (Ok ms) most (Err (Memory e)) = length ms ≤ most
SeenOf t vis (Ok ms) most (Err (Refused f)) = ⊥
SeenOf t vis (Err g) most r = r ≡ Err (Refused g)
