-- What a module sees of a place, by the test of visibility and by the relation.
use Rattle.std.proofs.Common.{◌≡◌, ℕ, Bool, true, false, if◌then◌else◌, ◌↔◌, Some, None, Option, Decides, refl, sym, ap, ◌∙◌, subst}
use Rattle.std.proofs.lemmas.Bool.{false≢true}
use Rattle.std.proofs.lemmas.Option.{none-some, same_Some}
use Rattle.hir_def.specs.declared.ModuleId.{ModuleId}
use Rattle.nameres.specs.Shapes.{Shape, Rules}
use Rattle.entries.specs.declared.per_ns.Item.{Item}
use Rattle.entries.specs.declared.visibility.Visibility.{Visibility}
use Rattle.entries.specs.Entries.{kept}
use Rattle.entries.specs.Visibilities.{visible, Sees}
use Rattle.entries.proofs.Visible.{visible_decides}
use Rattle.item_scope.specs.declared.place.Place.{Place}
use Rattle.item_scope.specs.IndexData.{IndexData}
use Rattle.item_scope.specs.Places.{holder}
use Rattle.item_scope.specs.Views.{View}
use Rattle.runs.specs.Chains.{InSight, NoneInSight}

-- visibility is tested rightly from the module
abbrev pub Tested : Shape → ModuleId → Type 0
Tested t from = (x : Visibility) → Decides (visible t from x) (Sees t from x)

module _ (t : Shape) (from : ModuleId) where
  -- a place has one entry in sight at most
  pub same-entry : {D M : Type 0} (p : Place (Item D M)) (a b : Item D M) → InSight t from p a → InSight t from p b → a ≡ b
  same-entry p a b g h = same_Some a b (sym g.holds ∙ h.holds)

  module _ (tested : Tested t from) {D M : Type 0} (p : Place (Item D M)) where
    by-holder : (o : Option (Item D M)) → holder p ≡ o → (e : Item D M) → (kept t from o ≡ Some e) ↔ InSight t from p e
    by-holder None h e = (λ k. absurd (none-some e k), λ s. absurd (none-some e (sym h ∙ s.holds)))
    by-holder (Some it) h e = by-test (visible t from it.vis) refl
      where
        by-test : (b : Bool) → visible t from it.vis ≡ b → (if b then Some it else None) ≡ Some e ↔ InSight t from p e
        by-test true v = (
          λ k. record { holds = h ∙ k; visible = subst (λ (x : Item D M). Sees t from x.vis) (same_Some it e k) ((tested it.vis).0 v) },
          λ s. sym h ∙ s.holds,
        )
        by-test false v = (
          λ k. absurd (none-some e k),
          λ s. absurd (false≢true (sym v ∙ (tested it.vis).1 (subst (λ (x : Item D M). Sees t from x.vis) (sym (same_Some it e (sym h ∙ s.holds))) s.visible))),
        )

    -- what is kept of a place is what is in sight
    pub kept-in-sight : (e : Item D M) → (kept t from (holder p) ≡ Some e) ↔ InSight t from p e
    kept-in-sight = by-holder (holder p) refl

    pub kept-none : NoneInSight t from p → kept t from (holder p) ≡ None
    kept-none none = by-kept (kept t from (holder p)) refl
      where
        by-kept : (o : Option (Item D M)) → kept t from (holder p) ≡ o → o ≡ None
        by-kept None k = refl
        by-kept (Some e) k = absurd (none e ((kept-in-sight e).0 k))

-- so it is in what an index tells, whatever calls were made of it
pub tested-in : (t : Shape) (rank : ModuleId → ℕ) (v w : View) (from : ModuleId) → Rules t rank → v.fixed.tree ≡ t → w.fixed ≡ v.fixed → Tested w.fixed.tree from
tested-in t rank v w from rules tied same =
    subst (λ (s : Shape). Tested s from) (sym (ap (λ (f : IndexData). f.tree) same ∙ tied)) (visible_decides t rank rules from)
