-- Block roots: what they are left for is none, and sees what they see.
use Rattle.std.proofs.Common.{◌≡◌, ℕ, zero, suc, ◌<◌, Bool, true, false, eqb, ◌==◌, Some, None, Option, sym, refl, ap, ◌∙◌, subst, arith}
use Rattle.std.proofs.lemmas.Bool.{eqb-true}
use Rattle.std.proofs.lemmas.Option.{none-some}
use Rattle.hir_def.specs.declared.BlockId.{BlockId}
use Rattle.hir_def.specs.declared.ModuleId.{ModuleId}
use Rattle.nameres.specs.Shapes.{Shape, Rules, block_exit, exit_of, around_of}
use Rattle.entries.specs.declared.visibility.Visibility.{Visibility}
use Rattle.entries.specs.declared.visibility.Visibility.TheVariants.{Module, PubCrate, Public}
use Rattle.entries.specs.Visibilities.{settled, visible}
use Rattle.entries.proofs.Climbs.{exit-falls, inside-up, settled_here, settled-exit}
use Rattle.entries.proofs.Visible.{crate_settled, visible_decides}
use Rattle.path_resolution.specs.Judges.{SeeTheSame}

module _ (t : Shape) (rank : ModuleId → ℕ) (rules : Rules t rank) where
  settled-inner : (n : ℕ) (m : ModuleId) → rank m < n → None ≡ block_exit t (settled t m)
  settled-inner zero m h = absurd (omega arith)
  settled-inner (suc n) m h = by-exit (block_exit t m) refl (settled-inner n)
    where
      by-exit : (o : Option ModuleId) → o ≡ block_exit t m → ((x : ModuleId) → rank x < n → None ≡ block_exit t (settled t x)) → None ≡ block_exit t (settled t m)
      by-exit None e ih = subst (λ (x : ModuleId). None ≡ block_exit t x) (sym (settled_here t m e)) e
      by-exit (Some p) e ih =
          let l : rank p < rank m = (exit-falls t rank rules m p e).0 in
          let below : rank p < n = omega arith in
          subst (λ (x : ModuleId). None ≡ block_exit t x) (settled-exit t rank rules m p e) (ih p below)

  -- what block roots are left for is no block root
  pub settled-out : (m : ModuleId) → None ≡ block_exit t (settled t m)
  settled-out m = settled-inner (suc (rank m)) m (omega arith)

  around-exit : (p : ModuleId) (q : Option ModuleId) (b : Option BlockId) → Some p ≡ exit_of t q b → Some p ≡ around_of t q b
  around-exit p (Some q) b e = absurd (none-some p (sym e))
  around-exit p None None e = absurd (none-some p (sym e))
  around-exit p None (Some b) e = e

  crate-exit : (m p : ModuleId) → Some p ≡ block_exit t m → t.crate_of m ≡ t.crate_of p
  crate-exit m p e =
      sym (crate_settled t rank rules m) ∙ ap t.crate_of (sym (settled-exit t rank rules m p e)) ∙ crate_settled t rank rules p

  -- a module that is no block root is another than a block root
  apart : (m p n : ModuleId) → Some p ≡ block_exit t m → None ≡ block_exit t n → (b : Bool) → eqb m.0 n.0 ≡ b → b ≡ false
  apart m p n e f false x = refl
  apart m p n e f true x =
      let same : m ≡ n = λ i. record { 0 = eqb-true m.0 n.0 x i } in
      absurd (none-some p (f ∙ ap (block_exit t) (sym same) ∙ sym e))

  visible-exit : (m p : ModuleId) → Some p ≡ block_exit t m → (vis : Visibility) → visible t m vis ≡ visible t p vis
  visible-exit m p e Public = refl
  visible-exit m p e (PubCrate c) = ap (λ x. x.0 == c.0) (crate-exit m p e)
  visible-exit m p e (Module n mark) =
      sym (inside-up t rank rules (settled t n) m p (apart m p (settled t n) e (settled-out n) (eqb m.0 (settled t n).0) refl) (around-exit p (t.parent_of m) (t.block_of m) e))

  pub see-the-same : SeeTheSame t
  see-the-same m p e vis =
      let same : visible t m vis ≡ visible t p vis = visible-exit m p (sym e) vis in
      let here = visible_decides t rank rules m vis in
      let there = visible_decides t rank rules p vis in
      (λ s. there.0 (sym same ∙ here.1 s), λ s. here.0 (same ∙ there.1 s))
