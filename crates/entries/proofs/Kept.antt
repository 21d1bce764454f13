-- Exactly what is seen is kept.
use Rattle.std.proofs.Common.{◌≡◌, ℕ, Bool, true, false, if◌then◌else◌, Some, None, Option, sym, refl, ◌∙◌, subst, arith}
use Rattle.std.proofs.lemmas.Bool.{true≢false}
use Rattle.hir_def.specs.declared.ModuleId.{ModuleId}
use Rattle.entries.specs.declared.per_ns.Item.{Item}
use Rattle.nameres.specs.Shapes.{Shape, Rules}
use Rattle.entries.specs.Visibilities.{visible}
use Rattle.entries.specs.Entries.{kept}
use Rattle.entries.specs.Merges.{KeepsSeen}
use Rattle.entries.proofs.Visible.{visible_decides}

module _ (t : Shape) (rank : ModuleId → ℕ) (r : Rules t rank) (from : ModuleId) where
  keeps-by : {D M : Type 0} (x : Item D M) (b : Bool) → visible t from x.vis ≡ b → KeepsSeen t from (Some x) (if b then Some x else None)
  keeps-by x true e it =
      (λ f. (f, (visible_decides t rank r from it.vis).0 (let s : x ≡ it = cc in subst (λ (y : Item _ _). visible t from y.vis ≡ true) s e)), λ p. p.0)
  keeps-by x false e it = (
    λ f. absurd (let z : ◌≡◌ {A = ℕ} 0 1 = cc in omega arith),
    λ p. absurd (true≢false (sym ((visible_decides t rank r from it.vis).1 p.1) ∙ (let s : x ≡ it = let f = p.0 in cc in subst (λ (y : Item _ _). visible t from y.vis ≡ false) s e))),
  )

  pub keeps_seen : {D M : Type 0} (p : Option (Item D M)) → KeepsSeen t from p (kept t from p)
  keeps_seen None it = (λ f. absurd (let z : ◌≡◌ {A = ℕ} 0 1 = cc in omega arith), λ p. p.0)
  keeps_seen (Some x) it = keeps-by x (visible t from x.vis) refl it
