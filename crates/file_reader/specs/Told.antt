-- What a file tells as far as it is read.
use Rattle.std.specs.Prelude.{ℕ, List, ◌∷◌, ◌++◌, [], map, Option, vec_items}
use Rattle.std.specs.Borrow.{Bor}
use Rattle.std.specs.BTreeMap.{BTreeMap}
use Rattle.entries.specs.declared.per_ns.PerNs.{PerNs}
use Rattle.entries.specs.declared.visibility.Visibility.{Visibility}
use Rattle.file_reader.specs.Definitions.{Counted, counted}
use Rattle.file_reader.specs.declared.reader.Known.{Known}
use Rattle.file_reader.specs.declared.reader.Reader.{Reader}
use Rattle.firmware.specs.declared.file.Declared.{Declared}
use Rattle.firmware.specs.declared.file.DeliveryStatement.{DeliveryStatement}
use Rattle.firmware.specs.declared.file.Firmware.{Firmware}
use Rattle.firmware.specs.declared.models.Model.{Model}
use Rattle.firmware.specs.declared.pile.Part.{Part}
use Rattle.firmware.specs.declared.tables.RowsTold.{RowsTold}
use Rattle.hir_def.specs.declared.MacroId.{MacroId}
use Rattle.hir_def.specs.declared.ModuleId.{ModuleId}
use Rattle.index_tables.specs.declared.keys.CrateName.{CrateName}
use Rattle.index_tables.specs.declared.keys.EnumName.{EnumName}
use Rattle.index_tables.specs.declared.keys.MapName.{MapName}
use Rattle.index_tables.specs.declared.keys.ModuleName.{ModuleName}
use Rattle.item_scope.specs.declared.delivery.Delivery.{Delivery}
use Rattle.item_scope.specs.declared.index_data.CallStyles.{CallStyles}
use Rattle.item_scope.specs.declared.index_data.DefMapId.{DefMapId}
use Rattle.item_scope.specs.declared.index_data.EnumVariant.{EnumVariant}
use Rattle.item_scope.specs.declared.index_data.ExternPrelude.{ExternPrelude}
use Rattle.item_scope.specs.declared.index_data.MacroUse.{MacroUse}
use Rattle.keyed.specs.declared.row.Row.{Row}
use Rattle.nameres.specs.declared.tree_rows.BlockRow.{BlockRow}
use Rattle.nameres.specs.declared.tree_rows.CrateRow.{CrateRow}
use Rattle.nameres.specs.declared.tree_rows.ModuleRow.{ModuleRow}
use Rattle.path_resolution.specs.declared.question.Question.{Question}
use Rattle.source_text.specs.declared.words.Word.{Word}

-- a table's rows, and the words that tell them
pub record Table (K V : Type 0) : Type 0 where
  pub rows : List (Row K V)
  pub words : List Word

abbrev pub table : {K V : Type 0} → RowsTold K V → Table K V
table t = record { rows = vec_items t.rows; words = vec_items t.words }

-- one more row, that the word tells
abbrev pub with_row : {K V : Type 0} → Table K V → K → V → Word → Table K V
with_row t k v w = record { rows = t.rows ++ record { key = k; value = v } ∷ []; words = t.words ++ w ∷ [] }

-- an item: its name, the full name of its module and its visibility
pub record ItemTold : Type 0 where
  pub name : List ℕ
  pub within : List ℕ
  pub vis : Visibility

abbrev pub item_told : Declared → ItemTold
item_told d = record { name = d.name.now; within = d.«module».now; vis = d.vis }

-- a delivery, and the statement that makes it: the name, the full name of the receiving module, and the line
pub record DeliveryTold : Type 0 where
  pub delivery : Delivery
  pub name : List ℕ
  pub within : List ℕ
  pub line : ℕ

abbrev pub delivery_told : DeliveryStatement → DeliveryTold
delivery_told d = record { delivery = d.delivery; name = d.name.now; within = d.«module».now; line = d.line }

-- what stands before the last `::` of a full name and the name after it, in a part of the file
abbrev pub Key : Type 0
Key = Part × Bor (List ℕ) × Bor (List ℕ)

-- what the parts of a file declare with a kind
abbrev pub Declarations : Type 0
Declarations = BTreeMap Key PerNs

-- the modules that are declared above, by their full names
abbrev pub Modules : Type 0
Modules = BTreeMap (Bor (List ℕ)) Known

-- the models' numbers by their names
abbrev pub ModelNumbers : Type 0
ModelNumbers = BTreeMap (Bor (List ℕ)) ℕ

-- What a file tells as far as it is read: its names, the full names and the rows of its tree, its statements as definitions and imports
-- are counted, its tables, items, deliveries, paths and models; and by what its next statements find all these.
pub record Told : Type 0 where
  pub names : List (List ℕ)
  pub full_names : List (List ℕ)
  pub modules : List ModuleRow
  pub blocks : List BlockRow
  pub crates : List CrateRow
  pub items : List ItemTold
  pub definitions : Counted
  pub delivered : List DeliveryTold
  pub extern_prelude : Table CrateName ExternPrelude
  pub macro_use : Table MapName MacroUse
  pub preludes : Table DefMapId ModuleId
  pub legacy : Table ModuleName MacroId
  pub variants : Table EnumName EnumVariant
  pub styles : List CallStyles
  pub paths : List Word
  pub questions : List (Option Question)
  pub models : List Model
  pub above : Modules
  pub declared : Declarations
  pub model_numbers : ModelNumbers

abbrev pub told : Firmware → Modules → Declarations → ModelNumbers → Told
told f above declared numbers = record {
  names = f.list;
  full_names = map (λ n. n.now) (vec_items f.names);
  modules = vec_items f.modules;
  blocks = vec_items f.blocks;
  crates = vec_items f.crates;
  items = map item_told (vec_items f.items);
  definitions = counted f.definitions;
  delivered = map delivery_told (vec_items f.deliveries);
  extern_prelude = table f.tables.extern_prelude;
  macro_use = table f.tables.macro_use;
  preludes = table f.tables.preludes;
  legacy = table f.tables.legacy;
  variants = table f.tables.variants;
  styles = vec_items f.tables.styles;
  paths = vec_items f.paths;
  questions = vec_items f.questions;
  models = vec_items f.models;
  above = above;
  declared = declared;
  model_numbers = numbers;
}

abbrev pub told_by : Reader → Told
told_by r = told r.firmware r.by_name r.declared r.model_numbers
