-- The three namespaces, so that what holds in each of them is said once.
use Rattle.std.specs.Prelude.{Option}
use Rattle.hir_def.specs.declared.MacroId.{MacroId}
use Rattle.hir_def.specs.declared.ModuleDefId.{ModuleDefId}
use Rattle.hir_def.specs.declared.import.ImportOrExternCrate.{ImportOrExternCrate}
use Rattle.hir_def.specs.declared.import.ImportOrGlob.{ImportOrGlob}
use Rattle.entries.specs.declared.per_ns.Item.{Item}
use Rattle.entries.specs.declared.per_ns.PerNs.{PerNs}
use Rattle.item_scope.specs.Deliveries.{type_tests, value_tests, macro_tests}
use Rattle.item_scope.specs.Places.{Tests}
use Rattle.item_scope.specs.Views.{View, Places}

-- a namespace: its places, its entry of an entry for each, and the tests of its steps
pub record Space (D M : Type 0) : Type 0 where
  pub places : View → Places (Item D M)
  pub part : PerNs → Option (Item D M)
  pub tests : Tests (Item D M)

abbrev pub types : Space ModuleDefId ImportOrExternCrate
types = record { places = λ v. v.types; part = λ p. p.types; tests = type_tests }

abbrev pub values : Space ModuleDefId ImportOrGlob
values = record { places = λ v. v.values; part = λ p. p.values; tests = value_tests }

abbrev pub macros : Space MacroId ImportOrExternCrate
macros = record { places = λ v. v.macros; part = λ p. p.macros; tests = macro_tests }

-- it holds in each namespace
pub record Each (P : (D M : Type 0) → Space D M → Type 0) : Type 0 where
  pub types : P ModuleDefId ImportOrExternCrate types
  pub values : P ModuleDefId ImportOrGlob values
  pub macros : P MacroId ImportOrExternCrate macros
