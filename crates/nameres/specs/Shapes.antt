-- What a module tree tells, and the rules that it keeps.
use Rattle.std.specs.Prelude.{◌≡◌, ℕ, ◌<◌, ◌≤◌, ◌↔◌, Some, None, Option}
use Rattle.hir_def.specs.declared.ModuleId.{ModuleId}
use Rattle.hir_def.specs.declared.BlockId.{BlockId}
use Rattle.hir_def.specs.declared.CrateId.{CrateId}
use Rattle.hir_def.specs.declared.edition.Edition.{Edition}
use Rattle.hir_def.specs.declared.edition.Edition.TheVariants.{Edition2015}

-- numbers from 0 up to the counts exist; past them every function has one fixed answer
pub record Shape : Type 0 where
  pub modules : ℕ
  pub blocks : ℕ
  pub crates : ℕ
  pub crate_of : ModuleId → CrateId
  pub block_of : ModuleId → Option BlockId
  pub parent_of : ModuleId → Option ModuleId
  pub block_root : BlockId → ModuleId
  -- the module that the block stands in
  pub outside_of : BlockId → ModuleId
  pub crate_root : CrateId → ModuleId
  pub edition_of : CrateId → Edition

abbrev pub ModuleIn : Shape → ModuleId → Type 0
ModuleIn t m = m.0 < t.modules

abbrev pub BlockIn : Shape → BlockId → Type 0
BlockIn t b = b.0 < t.blocks

abbrev pub CrateIn : Shape → CrateId → Type 0
CrateIn t c = c.0 < t.crates

-- a module of the crate, in no block and without a parent
pub record TopOfCrate (t : Shape) (c : CrateId) (m : ModuleId) : Type 0 where
  pub exists : ModuleIn t m
  pub crate : t.crate_of m ≡ c
  pub blockless : t.block_of m ≡ None
  pub orphan : t.parent_of m ≡ None

-- a module of the block without a parent
pub record TopOfBlock (t : Shape) (b : BlockId) (m : ModuleId) : Type 0 where
  pub exists : ModuleIn t m
  pub block : t.block_of m ≡ Some b
  pub orphan : t.parent_of m ≡ None

-- m's parent is p
pub record Child (t : Shape) (rank : ModuleId → ℕ) (m p : ModuleId) : Type 0 where
  pub exists : ModuleIn t p
  pub lower : rank p < rank m
  pub crate : t.crate_of p ≡ t.crate_of m
  pub block : t.block_of p ≡ t.block_of m

-- the block b stands in a module
pub record Standing (t : Shape) (rank : ModuleId → ℕ) (b : BlockId) : Type 0 where
  pub exists : ModuleIn t (t.outside_of b)
  pub lower : rank (t.outside_of b) < rank (t.block_root b)
  pub crate : t.crate_of (t.outside_of b) ≡ t.crate_of (t.block_root b)

-- what does not exist is told as nothing: crate 0, no block, no parent, module 0, the first edition
pub record Bounded (t : Shape) : Type 0 where
  pub crates-of : (m : ModuleId) → t.modules ≤ m.0 → t.crate_of m ≡ record { 0 = 0 }
  pub blocks-of : (m : ModuleId) → t.modules ≤ m.0 → t.block_of m ≡ None
  pub parents-of : (m : ModuleId) → t.modules ≤ m.0 → t.parent_of m ≡ None
  pub block-roots : (b : BlockId) → t.blocks ≤ b.0 → t.block_root b ≡ record { 0 = 0 }
  pub outsides : (b : BlockId) → t.blocks ≤ b.0 → t.outside_of b ≡ record { 0 = 0 }
  pub crate-roots : (c : CrateId) → t.crates ≤ c.0 → t.crate_root c ≡ record { 0 = 0 }
  pub editions : (c : CrateId) → t.crates ≤ c.0 → t.edition_of c ≡ Edition2015

-- the rules of a module tree; the rank of a module is below the number of modules
pub record Rules (t : Shape) (rank : ModuleId → ℕ) : Type 0 where
  -- limits
  pub few-modules : t.modules ≤ 4096
  pub few-blocks : t.blocks ≤ 1024
  pub few-crates : t.crates ≤ 64
  -- a module's crate and block exist
  pub crate : (m : ModuleId) → ModuleIn t m → CrateIn t (t.crate_of m)
  pub block : (m : ModuleId) (b : BlockId) → t.block_of m ≡ Some b → BlockIn t b
  -- a parent exists, has a lower rank, and shares its child's crate and block
  pub ranked : (m : ModuleId) → ModuleIn t m → rank m < t.modules
  pub parent : (m p : ModuleId) → t.parent_of m ≡ Some p → Child t rank m p
  -- a block stands in a module of its crate, of a lower rank than its root
  pub outside : (b : BlockId) → BlockIn t b → Standing t rank b
  -- each crate has exactly one blockless module without a parent, and each block exactly one: the roots
  pub crate-root : (c : CrateId) → CrateIn t c → (m : ModuleId) → TopOfCrate t c m ↔ (m ≡ t.crate_root c)
  pub block-root : (b : BlockId) → BlockIn t b → (m : ModuleId) → TopOfBlock t b m ↔ (m ≡ t.block_root b)
  pub bounded : Bounded t

-- the module that m's block stands in, where m is the root of a block
abbrev pub exit_of : Shape → Option ModuleId → Option BlockId → Option ModuleId
exit_of t (Some p) b = None
exit_of t None None = None
exit_of t None (Some b) = Some (t.outside_of b)

abbrev pub block_exit : Shape → ModuleId → Option ModuleId
block_exit t m = exit_of t (t.parent_of m) (t.block_of m)

-- the module around m: its parent, or the module that its block stands in
abbrev pub around_of : Shape → Option ModuleId → Option BlockId → Option ModuleId
around_of t (Some p) b = Some p
around_of t None None = None
around_of t None (Some b) = Some (t.outside_of b)

abbrev pub around : Shape → ModuleId → Option ModuleId
around t m = around_of t (t.parent_of m) (t.block_of m)

-- m is the root of a block that stands in n
pub record LeavesBlock (t : Shape) (m n : ModuleId) : Type 0 where
  pub block : BlockId
  pub root : TopOfBlock t block m
  pub outside : n ≡ t.outside_of block

-- m is declared in n, or is the root of a block that stands in n
pub data StandsIn (t : Shape) (m n : ModuleId) : Type 0 where
  declared : t.parent_of m ≡ Some n → StandsIn t m n
  leaves : LeavesBlock t m n → StandsIn t m n
