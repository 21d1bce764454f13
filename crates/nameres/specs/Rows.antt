-- The tables of a module tree: what their rows tell, and which rows are good.
use Rattle.std.specs.Prelude.{◌≡◌, ℕ, ◌+◌, ◌-◌, ◌<◌, Bool, true, false, if◌then◌else◌, not, ◌&&◌, List, [], length, is_some, Some, None, Ok, Err, Option, Result, ◌==◌, nat_lt, slice_index_or}
use Rattle.hir_def.specs.declared.ModuleId.{ModuleId}
use Rattle.hir_def.specs.declared.BlockId.{BlockId}
use Rattle.hir_def.specs.declared.CrateId.{CrateId}
use Rattle.hir_def.specs.declared.edition.Edition.TheVariants.{Edition2015}
use Rattle.hir_def.specs.declared.fault.TreeFault.{TreeFault}
use Rattle.hir_def.specs.declared.fault.TreeFault.TheVariants.{BadRow}
use Rattle.nameres.specs.declared.tree_rows.ModuleRow.{ModuleRow}
use Rattle.nameres.specs.declared.tree_rows.BlockRow.{BlockRow}
use Rattle.nameres.specs.declared.tree_rows.CrateRow.{CrateRow}
use Rattle.nameres.specs.declared.tree_rows.Tables.{Tables}
use Rattle.hir_def.specs.Faults.{tree_place}
use Rattle.nameres.specs.Shapes.{Shape}

pub record Rows : Type 0 where
  pub modules : List ModuleRow
  pub blocks : List BlockRow
  pub crates : List CrateRow

abbrev pub rows_of : Tables → Rows
rows_of t = record { modules = t.modules.now; blocks = t.blocks.now; crates = t.crates.now }

abbrev pub no_rows : Rows
no_rows = record { modules = []; blocks = []; crates = [] }

-- what is told of a number that has no row
abbrev pub blank_module : ModuleRow
blank_module = record { krate = record { 0 = 0 }; block = None; parent = None }

abbrev pub blank_block : BlockRow
blank_block = record { root = record { 0 = 0 }; outside = record { 0 = 0 } }

abbrev pub blank_crate : CrateRow
blank_crate = record { root = record { 0 = 0 }; edition = Edition2015 }

abbrev pub module_at : Rows → ModuleId → ModuleRow
module_at t m = slice_index_or t.modules m.0 blank_module

abbrev pub block_at : Rows → BlockId → BlockRow
block_at t b = slice_index_or t.blocks b.0 blank_block

abbrev pub crate_at : Rows → CrateId → CrateRow
crate_at t c = slice_index_or t.crates c.0 blank_crate

-- the tree that the rows tell: row i tells of number i
abbrev pub tree_of : Rows → Shape
tree_of t = record {
  modules = length t.modules;
  blocks = length t.blocks;
  crates = length t.crates;
  crate_of = λ m. (module_at t m).krate;
  block_of = λ m. (module_at t m).block;
  parent_of = λ m. (module_at t m).parent;
  block_root = λ b. (block_at t b).root;
  outside_of = λ b. (block_at t b).outside;
  crate_root = λ c. (crate_at t c).root;
  edition_of = λ c. (crate_at t c).edition;
}

-- a module's rank is its row's number
abbrev pub row_number : ModuleId → ℕ
row_number m = m.0

abbrev pub same_block : Option BlockId → Option BlockId → Bool
same_block None None = true
same_block None (Some b) = false
same_block (Some a) None = false
same_block (Some a) (Some b) = a.0 == b.0

abbrev pub block_exists : Rows → Option BlockId → Bool
block_exists t None = true
block_exists t (Some b) = nat_lt b.0 (length t.blocks)

-- the root that its block's row tells, or its crate's row if it has no block
abbrev pub is_root : Rows → ℕ → CrateId → Option BlockId → Bool
is_root t n c None = (crate_at t c).root.0 == n
is_root t n c (Some b) = (block_at t b).root.0 == n

-- a parent is lower and has the crate and the block; without a parent a module is a root
abbrev pub good_parent : Rows → ℕ → CrateId → Option BlockId → Option ModuleId → Bool
good_parent t n c b None = is_root t n c b
good_parent t n c b (Some p) = nat_lt p.0 n && ((module_at t p).krate.0 == c.0 && same_block (module_at t p).block b)

abbrev pub good_module : Rows → ℕ → ModuleRow → Bool
good_module t n row =
    nat_lt n 4096
    && (nat_lt row.krate.0 (length t.crates)
    && (block_exists t row.block
    && good_parent t n row.krate row.block row.parent))

-- a block's root is in the block and has no parent; its outside module is lower and of the root's crate
abbrev pub good_block : Rows → ℕ → BlockRow → Bool
good_block t n row =
    nat_lt n 1024
    && (nat_lt row.root.0 (length t.modules)
    && (same_block (module_at t row.root).block (Some (record { 0 = n }))
    && (not (is_some (module_at t row.root).parent)
    && (nat_lt row.outside.0 row.root.0
    && (module_at t row.outside).krate.0 == (module_at t row.root).krate.0))))

-- a crate's root is of the crate, in no block and without a parent
abbrev pub good_crate : Rows → ℕ → CrateRow → Bool
good_crate t n row =
    nat_lt n 64
    && (nat_lt row.root.0 (length t.modules)
    && ((module_at t row.root).krate.0 == n
    && (not (is_some (module_at t row.root).block)
    && not (is_some (module_at t row.root).parent))))

-- of each row of a table, whether it is good; past the end, whether a blank one is
abbrev pub tests : {R : Type 0} → (ℕ → R → Bool) → R → List R → ℕ → Bool
tests good blank rows k = good k (slice_index_or rows k blank)

abbrev pub good_modules : Rows → ℕ → Bool
good_modules t = tests (good_module t) blank_module t.modules

abbrev pub good_blocks : Rows → ℕ → Bool
good_blocks t = tests (good_block t) blank_block t.blocks

abbrev pub good_crates : Rows → ℕ → Bool
good_crates t = tests (good_crate t) blank_crate t.crates

-- the n tests of f, then those of g
abbrev pub in_turn : (ℕ → Bool) → ℕ → (ℕ → Bool) → ℕ → Bool
in_turn f n g k = if nat_lt k n then f k else g (k - n)

abbrev pub good_rest : Rows → ℕ → Bool
good_rest t = in_turn (good_blocks t) (length t.blocks) (good_crates t)

-- the row of that number is good, counted through the modules, then the blocks, then the crates
abbrev pub good_row : Rows → ℕ → Bool
good_row t = in_turn (good_modules t) (length t.modules) (good_rest t)

abbrev pub row_count : Rows → ℕ
row_count t = length t.modules + (length t.blocks + length t.crates)

-- the first of n numbers that fails, or none
abbrev pub FirstBad : (ℕ → Bool) → ℕ → Option ℕ → Type 0
FirstBad good n None = (k : ℕ) → k < n → good k ≡ true
FirstBad good n (Some i) = (i < n) × (good i ≡ false) × ((k : ℕ) → k < i → good k ≡ true)

-- a load is accepted where no row is bad, and else refused at the first bad row
abbrev pub Loads : Rows → Result (Unit {0}) TreeFault → Type 0
Loads t (Ok u) = FirstBad (good_row t) (row_count t) None
Loads t (Err f) = (f ≡ BadRow (tree_place f)) × FirstBad (good_row t) (row_count t) (Some (tree_place f))
