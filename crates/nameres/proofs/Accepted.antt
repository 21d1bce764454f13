-- A load is accepted exactly when the rules hold.
use Rattle.std.proofs.Common.{◌≡◌, ℕ, ◌+◌, ◌<◌, ◌≤◌, true, not, length, is_some, is_ok, Some, None, Ok, Err, Decides, Option, Result, sym, refl, ap, ◌∙◌, arith}
use Rattle.std.proofs.lemmas.Bool.{and_from, lt-ltb, eq-eqb, true≢false, both_ways}
use Rattle.hir_def.specs.declared.ModuleId.{ModuleId}
use Rattle.hir_def.specs.declared.BlockId.{BlockId}
use Rattle.hir_def.specs.declared.CrateId.{CrateId}
use Rattle.hir_def.specs.declared.fault.TreeFault.{TreeFault}
use Rattle.hir_def.specs.Faults.{tree_place}
use Rattle.nameres.specs.Shapes.{Rules, TopOfCrate, TopOfBlock}
use Rattle.nameres.specs.Rows.{Rows, module_at, block_at, crate_at, tree_of, row_number, same_block, block_exists, is_root, good_parent, good_modules, good_blocks, good_crates, good_rest, good_row, row_count, FirstBad, Loads}
use Rattle.nameres.specs.Checked.{ModulesGood, BlocksGood, CratesGood, rules-of}
use Rattle.nameres.proofs.Turns.{turn-left, turn-past, bad-none}

block_same : (a b : Option BlockId) → a ≡ b → same_block a b ≡ true
block_same None None e = refl
block_same None (Some b) e = absurd (let z : ◌≡◌ {A = ℕ} 0 1 = cc in omega arith)
block_same (Some a) None e = absurd (let z : ◌≡◌ {A = ℕ} 0 1 = cc in omega arith)
block_same (Some a) (Some b) e = let s : a ≡ b = cc in eq-eqb a.0 b.0 (ap (λ (x : BlockId). x.0) s)

no-some : {A : Type 0} (o : Option A) → o ≡ None → not (is_some o) ≡ true
no-some None e = refl
no-some (Some a) e = absurd (let z : ◌≡◌ {A = ℕ} 0 1 = cc in omega arith)

module _ (t : Rows) (r : Rules (tree_of t) row_number) where
  block-there : (m : ModuleId) (o : Option BlockId) → (module_at t m).block ≡ o → block_exists t o ≡ true
  block-there m None e = refl
  block-there m (Some b) e = lt-ltb _ _ (r.block m b e)

  root-there : (m : ModuleId) → m.0 < length t.modules → (module_at t m).parent ≡ None → (o : Option BlockId) → (module_at t m).block ≡ o → is_root t m.0 (module_at t m).krate o ≡ true
  root-there m h n None e =
      let top : TopOfCrate (tree_of t) (module_at t m).krate m = record { exists = h; crate = refl; blockless = e; orphan = n } in
      eq-eqb _ _ (sym (ap (λ (x : ModuleId). x.0) ((r.crate-root (module_at t m).krate (r.crate m h) m).0 top)))
  root-there m h n (Some b) e =
      let top : TopOfBlock (tree_of t) b m = record { exists = h; block = e; orphan = n } in
      eq-eqb _ _ (sym (ap (λ (x : ModuleId). x.0) ((r.block-root b (r.block m b e) m).0 top)))

  parent-there : (m : ModuleId) → m.0 < length t.modules → (q : Option ModuleId) → (module_at t m).parent ≡ q → good_parent t m.0 (module_at t m).krate (module_at t m).block q ≡ true
  parent-there m h None e = root-there m h e (module_at t m).block refl
  parent-there m h (Some p) e =
      let c = r.parent m p e in
      and_from _ _ (lt-ltb p.0 m.0 c.lower)
      (and_from _ _ (eq-eqb _ _ (ap (λ (x : CrateId). x.0) c.crate)) (block_same _ _ c.block))

  modules-good : ModulesGood t
  modules-good k h =
      let m : ModuleId = record { 0 = k } in
      let few : k < 4096 = omega (arith, r.few-modules) in
      and_from _ _ (lt-ltb k 4096 few)
      (and_from _ _ (lt-ltb _ _ (r.crate m h))
      (and_from _ _ (block-there m (module_at t m).block refl) (parent-there m h (module_at t m).parent refl)))

  blocks-good : BlocksGood t
  blocks-good k h =
      let b : BlockId = record { 0 = k } in
      let top : TopOfBlock (tree_of t) b (block_at t b).root = (r.block-root b h (block_at t b).root).1 refl in
      let s = r.outside b h in
      let few : k < 1024 = omega (arith, r.few-blocks) in
      and_from _ _ (lt-ltb k 1024 few)
      (and_from _ _ (lt-ltb _ _ top.exists)
      (and_from _ _ (block_same _ _ top.block)
      (and_from _ _ (no-some _ top.orphan)
      (and_from _ _ (lt-ltb _ _ s.lower) (eq-eqb _ _ (ap (λ (x : CrateId). x.0) s.crate))))))

  crates-good : CratesGood t
  crates-good k h =
      let c : CrateId = record { 0 = k } in
      let top : TopOfCrate (tree_of t) c (crate_at t c).root = (r.crate-root c h (crate_at t c).root).1 refl in
      let few : k < 64 = omega (arith, r.few-crates) in
      and_from _ _ (lt-ltb k 64 few)
      (and_from _ _ (lt-ltb _ _ top.exists)
      (and_from _ _ (eq-eqb _ _ (ap (λ (x : CrateId). x.0) top.crate))
      (and_from _ _ (no-some _ top.blockless) (no-some _ top.orphan))))

  all-good : FirstBad (good_row t) (row_count t) None
  all-good = bad-none (good_modules t) (good_rest t) _ _ modules-good (bad-none (good_blocks t) (good_crates t) _ _ blocks-good crates-good)

-- each table's rows out of all rows
module _ (t : Rows) (a : FirstBad (good_row t) (row_count t) None) where
  pub modules-of : ModulesGood t
  modules-of k h = let l : k < row_count t = omega arith in sym (turn-left (good_modules t) (good_rest t) _ k h) ∙ a k l

  pub blocks-of : BlocksGood t
  blocks-of k h =
      let l : length t.modules + k < row_count t = omega arith in
      sym (turn-past (good_modules t) (good_rest t) (length t.modules) k ∙ turn-left (good_blocks t) (good_crates t) _ k h) ∙ a (length t.modules + k) l

  pub crates-of : CratesGood t
  crates-of k h =
      let l : length t.modules + (length t.blocks + k) < row_count t = omega arith in
      sym (turn-past (good_modules t) (good_rest t) (length t.modules) (length t.blocks + k) ∙ turn-past (good_blocks t) (good_crates t) (length t.blocks) k)
      ∙ a (length t.modules + (length t.blocks + k)) l

pub few-rows : (t : Rows) → FirstBad (good_row t) (row_count t) None → row_count t ≤ 5184
few-rows t a =
    let r = rules-of t (modules-of t a) (blocks-of t a) (crates-of t a) in
    omega (arith, r.few-modules, r.few-blocks, r.few-crates)

pub accepted : (t : Rows) (r : Result (Unit {0}) TreeFault) → Loads t r → Decides (is_ok r) (Rules (tree_of t) row_number)
accepted t (Ok u) a = (λ e. rules-of t (modules-of t a) (blocks-of t a) (crates-of t a), λ r. refl)
accepted t (Err f) b =
    (λ e. absurd (true≢false (sym e)), λ r. absurd (both_ways (good_row t (tree_place f)) b.1.1 (all-good t r (tree_place f) b.1.0)))
