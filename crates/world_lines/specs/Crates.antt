-- The rows of a world's crates, from the editions and the modules that are told.
use Rattle.std.specs.Prelude.{ℕ, ◌+◌, ◌-◌, ◌^◌, ◌==◌, ◌&&◌, Bool, if◌then◌else◌, List, [], ◌∷◌, min, not, is_some}
use Rattle.hir_def.specs.declared.edition.Edition.{Edition}
use Rattle.nameres.specs.declared.tree_rows.CrateRow.{CrateRow}
use Rattle.nameres.specs.declared.tree_rows.ModuleRow.{ModuleRow}

-- whether a module is of that crate, in no block and without a parent
abbrev pub tops : ℕ → ModuleRow → Bool
tops k m = m.krate.0 == k && (not (is_some m.block) && not (is_some m.parent))

-- the first such module, where the modules are counted from that number; if there is none, a number that does not exist
abbrev pub root_from : ℕ → ℕ → List ModuleRow → ℕ
root_from k n [] = 2 ^ 32 - 1
root_from k n (m ∷ ms) = if tops k m then min n (2 ^ 32 - 1) else root_from k (n + 1) ms

-- a row for each edition, where the crates are counted from that number
abbrev pub crates_from : ℕ → List Edition → List ModuleRow → List CrateRow
crates_from k [] ms = []
crates_from k (e ∷ es) ms = record { root = record { 0 = root_from k 0 ms }; edition = e } ∷ crates_from (k + 1) es ms
