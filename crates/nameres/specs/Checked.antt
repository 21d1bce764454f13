-- Rows that are all good tell a tree that keeps the rules, a module's rank being its row's number.
use Rattle.std.specs.Prelude.{◌≡◌, ℕ, ◌<◌, ◌≤◌, true, not, length, is_some, Some, None, Option, ◌==◌, ◌≢◌, nat_lt, refl}
use Rattle.std.proofs.Common.{arith, sym, ap, subst, inl, inr}
use Rattle.std.proofs.lemmas.List.{get_or_past}
use Rattle.std.proofs.lemmas.Bool.{cases_lt, and_parts, ltb-true, eqb-true, false≢true}
use Rattle.hir_def.specs.declared.ModuleId.{ModuleId}
use Rattle.hir_def.specs.declared.BlockId.{BlockId}
use Rattle.hir_def.specs.declared.CrateId.{CrateId}
use Rattle.nameres.specs.declared.tree_rows.ModuleRow.{ModuleRow}
use Rattle.nameres.specs.declared.tree_rows.BlockRow.{BlockRow}
use Rattle.nameres.specs.declared.tree_rows.CrateRow.{CrateRow}
use Rattle.nameres.specs.Shapes.{Rules, Bounded, Child, Standing, TopOfCrate, TopOfBlock}
use Rattle.nameres.specs.Rows.{Rows, blank_module, blank_block, blank_crate, module_at, block_at, crate_at, tree_of, row_number, same_block, block_exists, is_root, good_parent, good_module, good_block, good_crate, good_modules, good_blocks, good_crates}

abbrev pub ModulesGood : Rows → Type 0
ModulesGood t = (k : ℕ) → k < length t.modules → good_modules t k ≡ true

abbrev pub BlocksGood : Rows → Type 0
BlocksGood t = (k : ℕ) → k < length t.blocks → good_blocks t k ≡ true

abbrev pub CratesGood : Rows → Type 0
CratesGood t = (k : ℕ) → k < length t.crates → good_crates t k ≡ true

some-is-none : {A : Type 0} (o : Option A) (a : A) → o ≡ Some a → o ≢ None
some-is-none o a e f = let z : ◌≡◌ {A = ℕ} 0 1 = cc in omega arith

none_of : {A : Type 0} (o : Option A) → not (is_some o) ≡ true → o ≡ None
none_of None e = refl
none_of (Some a) e = absurd (false≢true e)

module-of : (a b : ModuleId) → a.0 ≡ b.0 → a ≡ b
module-of a b e i = record { 0 = e i }

crate-of : (a b : CrateId) → a.0 ≡ b.0 → a ≡ b
crate-of a b e i = record { 0 = e i }

block_of : (a b : Option BlockId) → same_block a b ≡ true → a ≡ b
block_of None None e = refl
block_of None (Some b) e = absurd (false≢true e)
block_of (Some a) None e = absurd (false≢true e)
block_of (Some a) (Some b) e = let s : a.0 ≡ b.0 = eqb-true a.0 b.0 e in λ i. Some (record { 0 = s i })

-- what a good row says
record ModuleFacts (t : Rows) (n : ℕ) (row : ModuleRow) : Type 0 where
  limit : n < 4096
  crate : row.krate.0 < length t.crates
  block : block_exists t row.block ≡ true
  parent : good_parent t n row.krate row.block row.parent ≡ true

module-facts : (t : Rows) (n : ℕ) (row : ModuleRow) → good_module t n row ≡ true → ModuleFacts t n row
module-facts t n row e =
    let a = and_parts (nat_lt n 4096) _ e in
    let b = and_parts (nat_lt row.krate.0 (length t.crates)) _ a.1 in
    let c = and_parts (block_exists t row.block) _ b.1 in
    record { limit = ltb-true _ _ a.0; crate = ltb-true _ _ b.0; block = c.0; parent = c.1 }

record BlockFacts (t : Rows) (b : BlockId) (row : BlockRow) : Type 0 where
  limit : b.0 < 1024
  root : row.root.0 < length t.modules
  block : (module_at t row.root).block ≡ Some b
  orphan : (module_at t row.root).parent ≡ None
  lower : row.outside.0 < row.root.0
  crate : (module_at t row.outside).krate ≡ (module_at t row.root).krate

block-facts : (t : Rows) (b : BlockId) (row : BlockRow) → good_block t b.0 row ≡ true → BlockFacts t b row
block-facts t b row e =
    let a = and_parts (nat_lt b.0 1024) _ e in
    let c = and_parts (nat_lt row.root.0 (length t.modules)) _ a.1 in
    let d = and_parts (same_block (module_at t row.root).block (Some b)) _ c.1 in
    let f = and_parts (not (is_some (module_at t row.root).parent)) _ d.1 in
    let g = and_parts (nat_lt row.outside.0 row.root.0) _ f.1 in
    record {
      limit = ltb-true _ _ a.0;
      root = ltb-true _ _ c.0;
      block = block_of _ _ d.0;
      orphan = none_of _ f.0;
      lower = ltb-true _ _ g.0;
      crate = crate-of _ _ (eqb-true _ _ g.1);
    }

crate-top : (t : Rows) (c : CrateId) (row : CrateRow) → good_crate t c.0 row ≡ true → TopOfCrate (tree_of t) c row.root
crate-top t c row e =
    let a = and_parts (nat_lt c.0 64) _ e in
    let b = and_parts (nat_lt row.root.0 (length t.modules)) _ a.1 in
    let d = and_parts ((module_at t row.root).krate.0 == c.0) _ b.1 in
    let f = and_parts (not (is_some (module_at t row.root).block)) _ d.1 in
    record {
      exists = ltb-true _ _ b.0;
      crate = crate-of _ _ (eqb-true _ _ d.0);
      blockless = none_of _ f.0;
      orphan = none_of _ f.1;
    }

-- a number without a row is told by the blank row
bounded : (t : Rows) → Bounded (tree_of t)
bounded t = record {
  crates-of = λ m h. ap (λ (r : ModuleRow). r.krate) (get_or_past t.modules m.0 blank_module h);
  blocks-of = λ m h. ap (λ (r : ModuleRow). r.block) (get_or_past t.modules m.0 blank_module h);
  parents-of = λ m h. ap (λ (r : ModuleRow). r.parent) (get_or_past t.modules m.0 blank_module h);
  block-roots = λ b h. ap (λ (r : BlockRow). r.root) (get_or_past t.blocks b.0 blank_block h);
  outsides = λ b h. ap (λ (r : BlockRow). r.outside) (get_or_past t.blocks b.0 blank_block h);
  crate-roots = λ c h. ap (λ (r : CrateRow). r.root) (get_or_past t.crates c.0 blank_crate h);
  editions = λ c h. ap (λ (r : CrateRow). r.edition) (get_or_past t.crates c.0 blank_crate h);
}

module _ (t : Rows) (ms : ModulesGood t) (bs : BlocksGood t) (cs : CratesGood t) where
  few : (n limit : ℕ) → (limit < n → ⊥) → n ≤ limit
  few n limit no_more = elim (cases_lt limit n) [ inl l ↦ absurd (no_more l) | inr l ↦ l ]

  facts : (m : ModuleId) → m.0 < length t.modules → ModuleFacts t m.0 (module_at t m)
  facts m h = module-facts t m.0 (module_at t m) (ms m.0 h)

  exists-by-block : (m : ModuleId) (b : BlockId) → (module_at t m).block ≡ Some b → m.0 < length t.modules
  exists-by-block m b e =
      elim (cases_lt m.0 (length t.modules)) [ inl h ↦ h | inr h ↦ absurd (some-is-none _ b e ((bounded t).blocks-of m h)) ]

  exists-by-parent : (m p : ModuleId) → (module_at t m).parent ≡ Some p → m.0 < length t.modules
  exists-by-parent m p e =
      elim (cases_lt m.0 (length t.modules)) [ inl h ↦ h | inr h ↦ absurd (some-is-none _ p e ((bounded t).parents-of m h)) ]

  block-told : (m : ModuleId) (b : BlockId) → (module_at t m).block ≡ Some b → b.0 < length t.blocks
  block-told m b e =
      ltb-true _ _ (subst (λ (o : Option BlockId). block_exists t o ≡ true) e (facts m (exists-by-block m b e)).block)

  child : (m p : ModuleId) → (module_at t m).parent ≡ Some p → Child (tree_of t) row_number m p
  child m p e =
      let h = exists-by-parent m p e in
      let g = subst (λ (o : Option ModuleId). good_parent t m.0 (module_at t m).krate (module_at t m).block o ≡ true) e (facts m h).parent in
      let a = and_parts (nat_lt p.0 m.0) _ g in
      let b = and_parts ((module_at t p).krate.0 == (module_at t m).krate.0) _ a.1 in
      let low : p.0 < m.0 = ltb-true _ _ a.0 in
      record { exists = omega (arith, h, low); lower = low; crate = crate-of _ _ (eqb-true _ _ b.0); block = block_of _ _ b.1 }

  standing : (b : BlockId) → b.0 < length t.blocks → Standing (tree_of t) row_number b
  standing b h =
      let f = block-facts t b (block_at t b) (bs b.0 h) in
      record { exists = omega (arith, f.lower, f.root); lower = f.lower; crate = f.crate }

  -- a module without a parent is the root of its block or its crate
  rooted : (m : ModuleId) → m.0 < length t.modules → (module_at t m).parent ≡ None → is_root t m.0 (module_at t m).krate (module_at t m).block ≡ true
  rooted m h e = subst (λ (o : Option ModuleId). good_parent t m.0 (module_at t m).krate (module_at t m).block o ≡ true) e (facts m h).parent

  only-crate-root : (c : CrateId) (m : ModuleId) → TopOfCrate (tree_of t) c m → m ≡ (crate_at t c).root
  only-crate-root c m top =
      let a = subst (λ (o : Option BlockId). is_root t m.0 (module_at t m).krate o ≡ true) top.blockless (rooted m top.exists top.orphan) in
      let b = subst (λ (k : CrateId). is_root t m.0 k None ≡ true) top.crate a in
      module-of _ _ (sym (eqb-true _ _ b))

  only-block-root : (b : BlockId) (m : ModuleId) → TopOfBlock (tree_of t) b m → m ≡ (block_at t b).root
  only-block-root b m top =
      let a = subst (λ (o : Option BlockId). is_root t m.0 (module_at t m).krate o ≡ true) top.block (rooted m top.exists top.orphan) in
      module-of _ _ (sym (eqb-true _ _ a))

  block-top : (b : BlockId) → b.0 < length t.blocks → TopOfBlock (tree_of t) b (block_at t b).root
  block-top b h =
      let f = block-facts t b (block_at t b) (bs b.0 h) in
      record { exists = f.root; block = f.block; orphan = f.orphan }

  pub rules-of : Rules (tree_of t) row_number
  rules-of = record {
    few-modules = few _ 4096 (λ l. false≢true (ms 4096 l));
    few-blocks = few _ 1024 (λ l. false≢true (bs 1024 l));
    few-crates = few _ 64 (λ l. false≢true (cs 64 l));
    crate = λ m h. (facts m h).crate;
    block = block-told;
    ranked = λ m h. h;
    parent = child;
    outside = standing;
    crate-root = λ c h m.
        (only-crate-root c m, λ e. subst (TopOfCrate (tree_of t) c) (sym e) (crate-top t c (crate_at t c) (cs c.0 h)));
    block-root = λ b h m. (only-block-root b m, λ e. subst (TopOfBlock (tree_of t) b) (sym e) (block-top b h));
    bounded = bounded t;
  }
