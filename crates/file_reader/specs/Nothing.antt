-- A file that tells nothing yet.
use Rattle.std.specs.Prelude.{◌≡◌, []}
use Rattle.std.specs.BTreeMap.{IsEmpty}
use Rattle.file_reader.specs.Definitions.{Counted}
use Rattle.file_reader.specs.Told.{Declarations, ModelNumbers, Modules, Table, Told}
use Rattle.path_text.specs.Lists.{builtin_lines}

-- no definition and no import
abbrev pub no_statements : Counted
no_statements = record { modules = []; enums = []; macros = []; others = []; imports = []; globs = []; extern_crates = []; of_a_kind = [] }

abbrev pub no_rows : {K V : Type 0} → Table K V
no_rows = record { rows = []; words = [] }

-- The only names are the built-in ones.
abbrev pub nothing_told : Modules → Declarations → ModelNumbers → Told
nothing_told above declared numbers = record {
  names = builtin_lines 19;
  full_names = [];
  modules = [];
  blocks = [];
  crates = [];
  items = [];
  definitions = no_statements;
  delivered = [];
  extern_prelude = no_rows;
  macro_use = no_rows;
  preludes = no_rows;
  legacy = no_rows;
  variants = no_rows;
  styles = [];
  paths = [];
  questions = [];
  models = [];
  above = above;
  declared = declared;
  model_numbers = numbers;
}

-- Nothing is declared above, with a kind or without, and no model.
abbrev pub IsNew : Told → Type 0
IsNew t = IsEmpty t.above × IsEmpty t.declared × IsEmpty t.model_numbers × (t ≡ nothing_told t.above t.declared t.model_numbers)
