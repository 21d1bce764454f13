-- The order law: which orders of deliveries come to the same.
use Rattle.std.specs.Prelude.{◌≡◌, not, List, [], filter, find, Option, Result}
use Rattle.hir_def.specs.declared.ModuleId.{ModuleId}
use Rattle.hir_def.specs.declared.Name.{Name}
use Rattle.hir_def.specs.declared.fault.PathFault.{PathFault}
use Rattle.path_text.specs.declared.mod_path.PathKind.{PathKind}
use Rattle.item_scope.specs.declared.place.Place.{Place}
use Rattle.item_scope.specs.declared.place.Place.TheVariants.{Empty}
use Rattle.item_scope.specs.Places.{Tests}
use Rattle.item_scope.specs.Views.{View}
use Rattle.path_resolution.specs.declared.answer.ResolvePathResult.{ResolvePathResult as Answer}
use Rattle.path_resolution.specs.declared.question.Question.{Question}
use Rattle.path_resolution.specs.Questions.{answered}
use Rattle.runs.specs.declared.calls.Call.{Call}
use Rattle.runs.specs.Runs.{taken, told_after}
use Rattle.runs.specs.Spaces.{Each}

-- the entries that came by name, in their order
abbrev pub named : {T : Type 0} → Tests T → List T → List T
named t = filter (λ e. not (t.glob e))

-- the first entry that a glob brought
abbrev pub first_glob : {T : Type 0} → Tests T → List T → Option T
first_glob t = find t.glob

-- of two lists that came to a place that began so: the same named entries in the same order; and where it began empty and none of
-- them came, the same first glob's entry, or none
pub record Agree {T : Type 0} (t : Tests T) (began : Place T) (xs ys : List T) : Type 0 where
  pub by_name : named t xs ≡ named t ys
  pub globs : began ≡ Empty → named t xs ≡ [] → first_glob t xs ≡ first_glob t ys

-- so did each place take under the two runs
abbrev pub TakeTheSame : View → List Call → List Call → Type 0
TakeTheSame v cs ds = Each (λ D M sp. (m : ModuleId) (n : Name) → Agree sp.tests (sp.places v m n) (taken sp m n cs) (taken sp m n ds))

-- the same is told, save how many rows are free, and so every question has equal answers, refusals included; also what was asked, of
-- which r and s are the answers
pub record Alike (v w : View) (r s : Result Answer PathFault) : Type 0 where
  pub told : v ≡ w
  pub answers : (q : Question) (k : PathKind) (ns : List Name) → answered v q k ns ≡ answered w q k ns
  pub asked : r ≡ s

-- indexes that began alike but for free rows, and whose places took the same under the runs, are alike then
abbrev pub OrderLaw : View → View → List Call → List Call → Result Answer PathFault → Result Answer PathFault → Type 0
OrderLaw v w cs ds r s = v ≡ w → TakeTheSame v cs ds → Alike (told_after v cs) (told_after w ds) r s
