-- What a file that is taken whole tells.
use Rattle.std.specs.Prelude.{◌≡◌, ℕ, ◌-◌, ◌^◌, ◌⊎◌, min, length, List, None, Some, Ok, Err, Result, vec_items}
use Rattle.std.specs.declared.hash.Hasher as hasher
use Rattle.std.specs.declared.hash.BuildHasher as builder
use Rattle.hir_def.specs.declared.fault.Failure.{Failure}
use Rattle.hir_def.specs.declared.fault.Failure.TheVariants.{Memory, Refused}
use Rattle.hir_def.specs.declared.fault.Fault.{Fault}
use Rattle.hir_def.specs.declared.fault.Fault.TheVariants.{Index}
use Rattle.hir_def.specs.declared.fault.IndexFault.TheVariants.{BadRow}
use Rattle.index_tables.specs.IndexRows.{IndexRows}
use Rattle.index_tables.specs.Loading.{LoadsIndex}
use Rattle.index_tables.specs.LoadedTables.{rows_in}
use Rattle.index_tables.specs.declared.loaded_tables.LoadedTables.{LoadedTables}
use Rattle.troubles.specs.declared.complaint.Complaint.{Complaint}
use Rattle.firmware.specs.declared.file.Firmware.{Firmware}
use Rattle.firmware.specs.declared.survey.Survey.{Survey}
use Rattle.troubles.specs.declared.trouble.Trouble.{Trouble}
use Rattle.troubles.specs.declared.trouble.Trouble.TheVariants.{Text, Tables}
use Rattle.path_text.specs.declared.mod_path.ModPath.{ModPath}
use Rattle.firmware.specs.Paths.{AllRead, FirstBad, WantsAt}
use Rattle.firmware.specs.Words.{word_at}
use Rattle.source_text.specs.declared.words.Word.{Word}

-- the largest number of 32 bits stands for more
abbrev pub count_of : ℕ → ℕ
count_of n = min n (2 ^ 32 - 1)

-- the rows that the statements of a file declare
abbrev pub declared_rows : Firmware → IndexRows
declared_rows f = record {
  tree = record { modules = vec_items f.modules; blocks = vec_items f.blocks; crates = vec_items f.crates };
  names = count_of (length f.list);
  enums = count_of (length (vec_items f.definitions.enums));
  macros = count_of (length (vec_items f.tables.styles));
  extern_prelude = vec_items f.tables.extern_prelude.rows;
  macro_use = vec_items f.tables.macro_use.rows;
  preludes = vec_items f.tables.preludes.rows;
  legacy = vec_items f.tables.legacy.rows;
  variants = vec_items f.tables.variants.rows;
  styles = vec_items f.tables.styles;
}

-- a bad row is told at the word that tells it
abbrev TellsRow : Firmware → Fault → Complaint → Type 0
TellsRow m f c = (row : ℕ) × ((word : Word) × ((f ≡ Index (BadRow row)) × (word_at m.tables row ≡ Some word) × (c.line ≡ word.line) × (c.column ≡ word.column)))

-- a bad row is told at the word that tells it; where no word does, and for all other faults, the fault itself is told
abbrev pub Tells : Firmware → Fault → Trouble → Type 0
Tells m f (Tables g) = (g ≡ f) × ((row : ℕ) → f ≡ Index (BadRow row) → word_at m.tables row ≡ None)
Tells m f (Text c) = TellsRow m f c

-- what is told of a load of the file's rows that is refused
abbrev pub Denies : Firmware → Failure Trouble → Type 0
Denies f (Memory e) = Unit {0}
Denies f (Refused t) = (why : Fault) × (LoadsIndex (declared_rows f) (Err why) × Tells f why t)

-- the tables of the file's rows, or why they make none
abbrev pub TablesOf : {S H : Type 0} {build : builder.Ghosts S H} {hash : hasher.Ghosts H} → Firmware → Result (LoadedTables S H build hash) (Failure Trouble) → Type 0
TablesOf f (Ok t) = LoadsIndex (declared_rows f) (Ok tt) × (rows_in t ≡ declared_rows f)
TablesOf f (Err e) = Denies f e

-- the tables are those of the file's rows, the names are its own, and each path is read by them
pub record Takes (f : Firmware) (s : Survey) : Type 0 where
  pub file : s.firmware.now ≡ f
  pub tables : rows_in s.tables ≡ declared_rows f
  pub names : s.list.now ≡ f.list
  pub paths : AllRead f.list (vec_items f.paths) (vec_items s.paths)

-- all paths of the file are read
abbrev pub PathsRead : Firmware → Type 0
PathsRead f = (read : List ModPath) × AllRead f.list (vec_items f.paths) read

-- why a file is not taken: its first bad path, or else what is wrong with its tables; memory is wanting at a path that can be
-- read, after paths that were read, or once all are read
abbrev pub WhyNot : Firmware → Failure Trouble → Type 0
WhyNot f (Memory e) = WantsAt f.list (vec_items f.paths) ⊎ PathsRead f
WhyNot f (Refused t) = FirstBad f.list (vec_items f.paths) t ⊎ (PathsRead f × Denies f (Refused t))
