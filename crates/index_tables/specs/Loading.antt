-- The tables of an index, row by row in the order told: the three counts, extern preludes, macro-use preludes, prelude
-- modules, legacy macros, enum variants, and the macros' call styles.
use Rattle.std.specs.Prelude.{◌≡◌, ◌≤◌, Bool, true, List, [], ◌∷◌, ◌++◌, length, Ok, Err, Result, None, nat_le}
use Rattle.hir_def.specs.declared.fault.Failure.{Failure}
use Rattle.hir_def.specs.declared.fault.Fault.{Fault}
use Rattle.hir_def.specs.declared.fault.Fault.TheVariants.{Text, Path, Tree, Index}
use Rattle.hir_def.specs.declared.fault.TreeFault.{TreeFault}
use Rattle.hir_def.specs.Faults.{IfRefused}
use Rattle.nameres.specs.Shapes.{Rules}
use Rattle.nameres.specs.Rows.{Rows, Loads, tree_of, row_number}
use Rattle.item_scope.specs.contracts.index_data.DefMapIdPartialEq.TheImpl.{eq-value as same_map}
use Rattle.keyed.specs.declared.row.Row.{Row}
use Rattle.keyed.specs.Entries.{most_rows}
use Rattle.index_tables.specs.contracts.keys.CrateNamePartialEq.TheImpl.{eq-value as same_crate_name}
use Rattle.index_tables.specs.contracts.keys.MapNamePartialEq.TheImpl.{eq-value as same_map_name}
use Rattle.index_tables.specs.contracts.keys.ModuleNamePartialEq.TheImpl.{eq-value as same_module_name}
use Rattle.index_tables.specs.contracts.keys.EnumNamePartialEq.TheImpl.{eq-value as same_enum_name}
use Rattle.index_tables.specs.IndexRows.{IndexRows, counts_of, data_from}
use Rattle.index_tables.specs.RowRules.{GoodRows, ExternPreludeExists, MacroUseExists, PreludeExists, LegacyExists, VariantExists}
use Rattle.index_tables.specs.Numbers.{extern_prelude_in, macro_use_in, prelude_in, legacy_in, variant_in}
use Rattle.index_tables.specs.RowTests.{row_tests, as_many, first_bad, IsBadRow, RowsPass}

abbrev pub table_tests : {K V : Type 0} → (K → K → Bool) → (K → V → Bool) → List (Row K V) → List Bool
table_tests eq exist rows = row_tests eq exist most_rows [] rows

abbrev pub index_tests : IndexRows → List Bool
index_tests r =
    (nat_le r.names 65536 ∷ true ∷ true ∷ [])
    ++ (table_tests same_crate_name.it (extern_prelude_in (counts_of r)) r.extern_prelude
    ++ (table_tests same_map_name.it (macro_use_in (counts_of r)) r.macro_use
    ++ (table_tests same_map.it (prelude_in (counts_of r)) r.preludes
    ++ (table_tests same_module_name.it (legacy_in (counts_of r)) r.legacy
    ++ (table_tests same_enum_name.it (variant_in (counts_of r)) r.variants
    ++ as_many (length r.styles) r.macros)))))

-- what the load of the tree alone answers
abbrev pub AnswersTree : {T : Type 0} → Rows → Result T TreeFault → Type 0
AnswersTree r (Ok t) = Loads r (Ok tt)
AnswersTree r (Err f) = Loads r (Err f)

-- what a load answers: the tree's tables are tested first, and then the rows of the index
abbrev pub LoadsIndex : IndexRows → Result (Unit {0}) Fault → Type 0
LoadsIndex r (Ok u) = Loads r.tree (Ok tt) × (first_bad (index_tests r) 0 ≡ None)
LoadsIndex r (Err (Tree f)) = Loads r.tree (Err f)
LoadsIndex r (Err (Index f)) = Loads r.tree (Ok tt) × IsBadRow (Index f) (first_bad (index_tests r) 0)
LoadsIndex r (Err (Text f)) = ⊥
LoadsIndex r (Err (Path f)) = ⊥

-- the same of a load that may want memory
abbrev pub AnswersLoad : {T : Type 0} → IndexRows → Result T (Failure Fault) → Type 0
AnswersLoad r (Ok t) = LoadsIndex r (Ok tt)
AnswersLoad r (Err e) = IfRefused (λ f. LoadsIndex r (Err f)) e

-- what is tested before a load asks for memory
abbrev pub BeginsGood : IndexRows → Type 0
BeginsGood r = Loads r.tree (Ok tt) × (nat_le r.names 65536 ≡ true)

-- the rows of an index pass their tests, taken kind by kind: this form computes, and every value of `LoadedTables` has it
pub record PassesTests (r : IndexRows) : Type 0 where
  pub few_names : r.names ≤ 65536
  pub extern_prelude : RowsPass same_crate_name.it (extern_prelude_in (counts_of r)) r.extern_prelude
  pub macro_use : RowsPass same_map_name.it (macro_use_in (counts_of r)) r.macro_use
  pub preludes : RowsPass same_map.it (prelude_in (counts_of r)) r.preludes
  pub legacy : RowsPass same_module_name.it (legacy_in (counts_of r)) r.legacy
  pub variants : RowsPass same_enum_name.it (variant_in (counts_of r)) r.variants
  pub styles : length r.styles ≡ r.macros

-- tables that keep the rules: those of a tree; names are few; what each row names exists, no key has two rows, and there are no
-- more than a table uses; and there are as many call styles as macros
pub record GoodTables (r : IndexRows) : Type 0 where
  pub tree : Rules (tree_of r.tree) row_number
  pub few_names : r.names ≤ 65536
  pub extern_prelude : GoodRows (ExternPreludeExists (data_from r)) r.extern_prelude
  pub macro_use : GoodRows (MacroUseExists (data_from r)) r.macro_use
  pub preludes : GoodRows (PreludeExists (data_from r)) r.preludes
  pub legacy : GoodRows (LegacyExists (data_from r)) r.legacy
  pub variants : GoodRows (VariantExists (data_from r)) r.variants
  pub styles : length r.styles ≡ r.macros

-- a load accepts exactly the tables that keep the rules; one that wants memory tells nothing of them
abbrev pub AcceptsGood : {T : Type 0} → IndexRows → Result T (Failure Fault) → Type 0
AcceptsGood r (Ok t) = GoodTables r
AcceptsGood r (Err e) = IfRefused (λ f. GoodTables r → ⊥) e
