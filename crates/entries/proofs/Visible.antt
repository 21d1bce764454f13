-- The tests of visibility decide its relations, and no module visibility reaches another crate.
use Rattle.std.proofs.Common.{◌≡◌, ℕ, zero, suc, ◌<◌, true, eqb, Some, None, Decides, Option, sym, refl, ap, ◌∙◌, subst, inl, inr, arith}
use Rattle.std.proofs.lemmas.Bool.{eq-eqb, eqb-true, or_cases, or_right, false≢true}
use Rattle.hir_def.specs.declared.ModuleId.{ModuleId}
use Rattle.hir_def.specs.declared.BlockId.{BlockId}
use Rattle.hir_def.specs.declared.CrateId.{CrateId}
use Rattle.entries.specs.declared.visibility.Visibility.{Visibility}
use Rattle.entries.specs.declared.visibility.Visibility.TheVariants.{Module, PubCrate, Public}
use Rattle.nameres.specs.Shapes.{Shape, Rules, block_exit, exit_of, around, around_of}
use Rattle.entries.specs.Visibilities.{Inside, itself, within, through, Settles, nested, blockless, leaves, Sees, public, in-crate, in-module, chain, chain_of, has, inside, settled, visible, Apart}
use Rattle.entries.proofs.Climbs.{around-falls, exit-falls, chain-step, inside-here, settled_here, settled-exit, root-of-block}

-- the same module by the same number
same_number : (m n : ModuleId) → m.0 ≡ n.0 → m ≡ n
same_number m n e i = record { 0 = e i }

abbrev InsideOf : Shape → ModuleId → Option ModuleId → Type 0
InsideOf t target None = ⊥
InsideOf t target (Some m) = Inside t target m

-- what is around m is inside, so m is
stepped : (t : Shape) (target m : ModuleId) (q : Option ModuleId) (b : Option BlockId) → t.parent_of m ≡ q → t.block_of m ≡ b → InsideOf t target (around_of t q b) → Inside t target m
stepped t target m (Some p) b e f i = within e i
stepped t target m None None e f i = absurd i
stepped t target m None (Some b) e f i = through e f i

found : (t : Shape) (target : ModuleId) (o : Option ModuleId) (n : ℕ) → has target (chain (around t) o n) ≡ true → InsideOf t target o
found t target None n e = absurd (false≢true e)
found t target (Some m) zero e = absurd (false≢true e)
found t target (Some m) (suc n) e =
    elim (or_cases (eqb m.0 target.0) (has target (chain (around t) (around t m) n)) e) [
      | inl a ↦ subst (Inside t target) (sym (same_number m target (eqb-true m.0 target.0 a))) itself
      | inr b ↦ stepped t target m (t.parent_of m) (t.block_of m) refl refl (found t target (around t m) n b)
    ]

module _ (t : Shape) (rank : ModuleId → ℕ) (r : Rules t rank) where
  up-once : (target m p : ModuleId) → Some p ≡ around t m → inside t target p ≡ true → inside t target m ≡ true
  unfolding inside
  up-once target m p e i =
      rw (chain-step t rank (around t) (around-falls t rank r) m p e) (or_right (eqb m.0 target.0) _ i)

  kept : (target : ModuleId) {m : ModuleId} → Inside t target m → inside t target m ≡ true
  kept target itself = inside-here t target target (eq-eqb target.0 target.0 refl)
  kept target (within {m} {p} e i) = up-once target m p (sym (ap (λ q. around_of t q (t.block_of m)) e)) (kept target i)
  kept target (through {m} {b} e f i) =
      up-once target m (t.outside_of b) (sym (ap (λ q. around_of t q (t.block_of m)) e ∙ ap (around_of t None) f)) (kept target i)

  pub inside-decides : (target m : ModuleId) → Decides (inside t target m) (Inside t target m)
  unfolding inside chain_of
  inside-decides target m = (found t target (Some m) (suc t.modules), kept target)

  settling : (n : ℕ) (m : ModuleId) → rank m < n → Settles t m (settled t m)
  settling zero m h = absurd (omega arith)
  settling (suc n) m h = by-block (t.parent_of m) (t.block_of m) refl refl (settling n)
    where
      by-block : (q : Option ModuleId) (b : Option BlockId) → t.parent_of m ≡ q → t.block_of m ≡ b → ((x : ModuleId) → rank x < n → Settles t x (settled t x)) → Settles t m (settled t m)
      by-block (Some p) b e f ih = subst (Settles t m) (sym (settled_here t m (sym (ap (λ q. exit_of t q (t.block_of m)) e)))) (nested e)
      by-block None None e f ih =
          subst (Settles t m) (sym (settled_here t m (sym (ap (λ q. exit_of t q (t.block_of m)) e ∙ ap (exit_of t None) f)))) (blockless e f)
      by-block None (Some b) e f ih =
          let out : Some (t.outside_of b) ≡ block_exit t m = sym (ap (λ q. exit_of t q (t.block_of m)) e ∙ ap (exit_of t None) f) in
          let l : rank (t.outside_of b) < rank m = (exit-falls t rank r m (t.outside_of b) out).0 in
          let below : rank (t.outside_of b) < n = omega arith in
          leaves e f (subst (Settles t (t.outside_of b)) (settled-exit t rank r m (t.outside_of b) out) (ih (t.outside_of b) below))

  pub settles : (m : ModuleId) → Settles t m (settled t m)
  settles m = settling (suc (rank m)) m (omega arith)

  settled-once : {m n : ModuleId} → Settles t m n → n ≡ settled t m
  settled-once (nested {m} e) = sym (settled_here t m (sym (ap (λ q. exit_of t q (t.block_of m)) e)))
  settled-once (blockless {m} e f) = sym (settled_here t m (sym (ap (λ q. exit_of t q (t.block_of m)) e ∙ ap (exit_of t None) f)))
  settled-once (leaves {m} {n} {b} e f s) =
      settled-once s ∙ settled-exit t rank r m (t.outside_of b) (sym (ap (λ q. exit_of t q (t.block_of m)) e ∙ ap (exit_of t None) f))

  pub visible_decides : (from : ModuleId) (v : Visibility) → Decides (visible t from v) (Sees t from v)
  visible_decides from Public = (λ e. public, λ s. refl)
  visible_decides from (PubCrate c) = (λ e. here c (eqb-true (t.crate_of from).0 c.0 e), λ s. eq-eqb (t.crate_of from).0 c.0 (crate-of c s))
    where
      here : (c : CrateId) → (t.crate_of from).0 ≡ c.0 → Sees t from (PubCrate c)
      here c e = subst (λ (x : CrateId). Sees t from (PubCrate x)) (λ i. record { 0 = e i }) in-crate

      crate-of : (c : CrateId) → Sees t from (PubCrate c) → (t.crate_of from).0 ≡ c.0
      crate-of c in-crate = refl
  visible_decides from (Module m mark) = (λ e. in-module (settles m) ((inside-decides (settled t m) from).0 e), there)
    where
      there : Sees t from (Module m mark) → inside t (settled t m) from ≡ true
      there (in-module {n = n} s i) = subst (λ (x : ModuleId). inside t x from ≡ true) (settled-once s) (kept n i)

  -- modules inside one another, and a block root and what it settles on, are of one crate
  block-crate : (m : ModuleId) (b : BlockId) → t.parent_of m ≡ None → t.block_of m ≡ Some b → t.crate_of m ≡ t.crate_of (t.outside_of b)
  block-crate m b e f = ap t.crate_of (root-of-block t rank r m b e f) ∙ sym (r.outside b (r.block m b f)).crate

  inside-crate : (target : ModuleId) {m : ModuleId} → Inside t target m → t.crate_of m ≡ t.crate_of target
  inside-crate target itself = refl
  inside-crate target (within {m} {p} e i) = sym (r.parent m p e).crate ∙ inside-crate target i
  inside-crate target (through {m} {b} e f i) = block-crate m b e f ∙ inside-crate target i

  settles-crate : {m n : ModuleId} → Settles t m n → t.crate_of m ≡ t.crate_of n
  settles-crate (nested e) = refl
  settles-crate (blockless e f) = refl
  settles-crate (leaves {m} {n} {b} e f s) = block-crate m b e f ∙ settles-crate s

  pub crate_settled : (m : ModuleId) → t.crate_of (settled t m) ≡ t.crate_of m
  crate_settled m = sym (settles-crate (settles m))

  pub stays_in_crate : (from : ModuleId) (v : Visibility) → Sees t from v → Apart t from v
  stays_in_crate from Public s = tt
  stays_in_crate from (PubCrate c) in-crate = refl
  stays_in_crate from (Module m mark) (in-module {n = n} s i) = inside-crate n i ∙ sym (settles-crate s)
