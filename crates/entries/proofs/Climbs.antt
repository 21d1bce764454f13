-- The way up from a module: chains along a step whose rank falls, and the two steps that a tree has.
use Rattle.std.proofs.Common.{◌≡◌, ℕ, zero, suc, ◌<◌, true, false, eqb, [], ◌∷◌, Some, None, Option, sym, refl, ap, ◌∙◌, subst, inl, inr, arith}
use Rattle.std.proofs.lemmas.Bool.{cases_lt}
use Rattle.hir_def.specs.declared.ModuleId.{ModuleId}
use Rattle.hir_def.specs.declared.BlockId.{BlockId}
use Rattle.nameres.specs.Shapes.{Shape, Rules, ModuleIn, block_exit, exit_of, around, around_of}
use Rattle.entries.specs.Visibilities.{chain, chain_of, inside, last_of, settled}

-- a step from m to p lowers the rank, and the ranks on the way are below the number of modules
abbrev pub Lower : Shape → (ModuleId → ℕ) → ModuleId → ModuleId → Type 0
Lower t rank m p = (rank p < rank m) × (rank m < t.modules)

abbrev pub Falls : Shape → (ModuleId → ℕ) → (ModuleId → Option ModuleId) → Type 0
Falls t rank up = (m p : ModuleId) → Some p ≡ up m → Lower t rank m p

abbrev Below : (ModuleId → ℕ) → Option ModuleId → ℕ → Type 0
Below rank None n = Unit {0}
Below rank (Some m) n = rank m < n

module _ (t : Shape) (rank : ModuleId → ℕ) (up : ModuleId → Option ModuleId) (falls : Falls t rank up) where
  low : (m : ModuleId) (o : Option ModuleId) → o ≡ up m → (x : ℕ) → rank m < suc x → Below rank o x
  low m None e x l = tt
  low m (Some p) e x l = let b : rank p < rank m = (falls m p e).0 in omega arith

  -- more steps than the rank has change nothing
  enough : (o : Option ModuleId) (n k : ℕ) → Below rank o n → Below rank o k → chain up o n ≡ chain up o k
  enough None n k h j = refl
  enough (Some m) zero k h j = absurd (omega arith)
  enough (Some m) (suc n) zero h j = absurd (omega arith)
  enough (Some m) (suc n) (suc k) h j =
      ap (λ r. m ∷ r) (enough (up m) n k (low m (up m) refl n h) (low m (up m) refl k j))

  pub chain-step : (m p : ModuleId) → Some p ≡ up m → chain_of t up m ≡ m ∷ chain_of t up p
  unfolding chain_of
  chain-step m p e =
      let f = falls m p e in
      let a : rank p < t.modules = omega (arith, f.0, f.1) in
      let b : rank p < suc t.modules = omega arith in
      ap (λ o. m ∷ chain up o t.modules) (sym e) ∙ ap (λ r. m ∷ r) (enough (Some p) t.modules (suc t.modules) a b)

pub chain-end : (t : Shape) (up : ModuleId → Option ModuleId) (m : ModuleId) → None ≡ up m → chain_of t up m ≡ m ∷ []
unfolding chain_of
chain-end t up m e = ap (λ o. m ∷ chain up o t.modules) (sym e)

-- the chain begins where it starts
last-of-chain : (t : Shape) (up : ModuleId → Option ModuleId) (m p : ModuleId) → last_of m (chain_of t up p) ≡ last_of p (chain_of t up p)
unfolding chain_of
last-of-chain t up m p = refl

module _ (t : Shape) (rank : ModuleId → ℕ) (r : Rules t rank) where
  exists-with-parent : (m p : ModuleId) → t.parent_of m ≡ Some p → ModuleIn t m
  exists-with-parent m p e =
      elim (cases_lt m.0 t.modules) [
        | inl h ↦ h
        | inr h ↦ absurd (let n : t.parent_of m ≡ None = r.bounded.parents-of m h in let z : ◌≡◌ {A = ℕ} 0 1 = cc in omega arith)
      ]

  exists-with-block : (m : ModuleId) (b : BlockId) → t.block_of m ≡ Some b → ModuleIn t m
  exists-with-block m b e =
      elim (cases_lt m.0 t.modules) [
        | inl h ↦ h
        | inr h ↦ absurd (let n : t.block_of m ≡ None = r.bounded.blocks-of m h in let z : ◌≡◌ {A = ℕ} 0 1 = cc in omega arith)
      ]

  -- a module of a block without a parent is the block's root
  pub root-of-block : (m : ModuleId) (b : BlockId) → t.parent_of m ≡ None → t.block_of m ≡ Some b → m ≡ t.block_root b
  root-of-block m b n e =
      (r.block-root b (r.block m b e) m).0 (record { exists = exists-with-block m b e; block = e; orphan = n })

  parent-lower : (m p : ModuleId) → t.parent_of m ≡ Some p → Lower t rank m p
  parent-lower m p e = ((r.parent m p e).lower, r.ranked m (exists-with-parent m p e))

  outside-lower : (m : ModuleId) (b : BlockId) → t.parent_of m ≡ None → t.block_of m ≡ Some b → Lower t rank m (t.outside_of b)
  outside-lower m b n e =
      let l : rank (t.outside_of b) < rank (t.block_root b) = (r.outside b (r.block m b e)).lower in
      let s : rank (t.block_root b) ≡ rank m = ap rank (sym (root-of-block m b n e)) in
      (omega arith, r.ranked m (exists-with-block m b e))

  around-lower : (m p : ModuleId) (q : Option ModuleId) (b : Option BlockId) → t.parent_of m ≡ q → t.block_of m ≡ b → Some p ≡ around_of t q b → Lower t rank m p
  around-lower m p (Some q) b e f g = let s : q ≡ p = cc in subst (Lower t rank m) s (parent-lower m q e)
  around-lower m p None None e f g = absurd (let z : ◌≡◌ {A = ℕ} 0 1 = cc in omega arith)
  around-lower m p None (Some b) e f g = let s : t.outside_of b ≡ p = cc in subst (Lower t rank m) s (outside-lower m b e f)

  pub around-falls : Falls t rank (around t)
  around-falls m p e = around-lower m p (t.parent_of m) (t.block_of m) refl refl e

  exit-lower : (m p : ModuleId) (q : Option ModuleId) (b : Option BlockId) → t.parent_of m ≡ q → t.block_of m ≡ b → Some p ≡ exit_of t q b → Lower t rank m p
  exit-lower m p (Some q) b e f g = absurd (let z : ◌≡◌ {A = ℕ} 0 1 = cc in omega arith)
  exit-lower m p None None e f g = absurd (let z : ◌≡◌ {A = ℕ} 0 1 = cc in omega arith)
  exit-lower m p None (Some b) e f g = let s : t.outside_of b ≡ p = cc in subst (Lower t rank m) s (outside-lower m b e f)

  pub exit-falls : Falls t rank (block_exit t)
  exit-falls m p e = exit-lower m p (t.parent_of m) (t.block_of m) refl refl e

  pub inside-up : (target m p : ModuleId) → eqb m.0 target.0 ≡ false → Some p ≡ around t m → inside t target p ≡ inside t target m
  unfolding inside
  inside-up target m p ne e = sym (rw (chain-step t rank (around t) around-falls m p e, ne))

  pub settled-exit : (m p : ModuleId) → Some p ≡ block_exit t m → settled t p ≡ settled t m
  unfolding settled
  settled-exit m p e = sym (rw (chain-step t rank (block_exit t) exit-falls m p e) (last-of-chain t (block_exit t) m p))

pub inside-here : (t : Shape) (target m : ModuleId) → eqb m.0 target.0 ≡ true → inside t target m ≡ true
unfolding chain_of inside
inside-here t target m e = rw e

pub inside-top : (t : Shape) (target m : ModuleId) → eqb m.0 target.0 ≡ false → None ≡ around t m → inside t target m ≡ false
unfolding inside
inside-top t target m ne e = rw (chain-end t (around t) m e, ne)

pub settled_here : (t : Shape) (m : ModuleId) → None ≡ block_exit t m → settled t m ≡ m
unfolding settled
settled_here t m e = rw (chain-end t (block_exit t) m e)
