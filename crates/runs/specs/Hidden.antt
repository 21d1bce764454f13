-- The hidden law: what the asking module cannot see changes nothing for it.
use Rattle.std.specs.Prelude.{◌≡◌, true, List, Some, Result}
use Rattle.hir_def.specs.declared.ModuleId.{ModuleId}
use Rattle.hir_def.specs.declared.Name.{Name}
use Rattle.hir_def.specs.declared.fault.PathFault.{PathFault}
use Rattle.path_text.specs.declared.mod_path.ModPath.{ModPath}
use Rattle.path_text.specs.declared.mod_path.PathKind.{PathKind}
use Rattle.entries.specs.declared.per_ns.Item.{Item}
use Rattle.entries.specs.Visibilities.{Sees}
use Rattle.item_scope.specs.declared.delivery.Delivery.{Delivery}
use Rattle.item_scope.specs.declared.place.Place.TheVariants.{Empty}
use Rattle.item_scope.specs.Deliveries.{brought}
use Rattle.item_scope.specs.Views.{View}
use Rattle.path_resolution.specs.declared.answer.ResolvePathResult.{ResolvePathResult as Answer}
use Rattle.path_resolution.specs.declared.question.Question.{Question}
use Rattle.path_resolution.specs.Questions.{answered}
use Rattle.path_resolution.specs.Shown.{names_its_start}
use Rattle.runs.specs.Spaces.{Each}

-- a delivery to empty places, of entries that are invisible from the module
abbrev pub IsHidden : View → ModuleId → Delivery → Type 0
IsHidden v from d =
    Each (λ D M sp. (e : Item D M) → sp.part (brought d) ≡ Some e → (sp.places v d.receiver d.name ≡ Empty) × (Sees v.fixed.tree from e.vis → ⊥))

-- of v, which was told before a delivery, and w, which is told after it: equal answers to each `crate`, `$crate`, `self` and `super`
-- path that is asked in the module, refusals included; also to what was asked, a path of kind k, of which r and s are the answers
pub record AlikeFrom (from : ModuleId) (v w : View) (k : PathKind) (r s : Result Answer PathFault) : Type 0 where
  pub answers : (q : Question) (j : PathKind) (ns : List Name) → q.original_module ≡ from → names_its_start j ≡ true → answered v q j ns ≡ answered w q j ns
  pub asked : names_its_start k ≡ true → r ≡ s

-- a delivery that is hidden from the asking module changes no answer to it
abbrev pub HiddenLaw : View → Delivery → View → Question → ModPath → Result Answer PathFault → Result Answer PathFault → Type 0
HiddenLaw v d w q path r s = IsHidden v q.original_module d → AlikeFrom q.original_module v w path.kind r s
