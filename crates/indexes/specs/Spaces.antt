-- The three namespaces, each by what stands in rows for it.
use Rattle.std.specs.Prelude.{Some, None, Option}
use Rattle.hir_def.specs.declared.Namespace.{Namespace}
use Rattle.hir_def.specs.declared.Namespace.TheVariants as namespace
use Rattle.item_scope.specs.Places.{Tests}
use Rattle.item_scope.specs.Views.{Types, Values, Macros, Places}
use Rattle.item_scope.specs.Deliveries.{type_tests, value_tests, macro_tests}
use Rattle.indexes.specs.declared.entry.Entry.{Entry}
use Rattle.indexes.specs.declared.entry.Entry.TheVariants as entry

-- the places of all namespaces
pub record AllPlaces : Type 0 where
  pub types : Places Types
  pub values : Places Values
  pub macros : Places Macros

abbrev pub namespace_of : Entry → Namespace
namespace_of (entry.Types e) = namespace.Types
namespace_of (entry.Values e) = namespace.Values
namespace_of (entry.Macros e) = namespace.Macros

abbrev pub types_of : Entry → Option Types
types_of (entry.Types e) = Some e
types_of (entry.Values e) = None
types_of (entry.Macros e) = None

abbrev pub values_of : Entry → Option Values
values_of (entry.Types e) = None
values_of (entry.Values e) = Some e
values_of (entry.Macros e) = None

abbrev pub macros_of : Entry → Option Macros
macros_of (entry.Types e) = None
macros_of (entry.Values e) = None
macros_of (entry.Macros e) = Some e

-- a namespace, with the tests of its steps, and its entries as entries of any namespace and back
pub record Space (T : Type 0) : Type 0 where
  pub namespace : Namespace
  pub tests : Tests T
  pub to : T → Entry
  pub of : Entry → Option T
  pub places : AllPlaces → Places T

abbrev pub type_space : Space Types
type_space = record { namespace = namespace.Types; tests = type_tests; to = λ e. entry.Types e; of = types_of; places = λ p. p.types }

abbrev pub value_space : Space Values
value_space = record { namespace = namespace.Values; tests = value_tests; to = λ e. entry.Values e; of = values_of; places = λ p. p.values }

abbrev pub macro_space : Space Macros
macro_space = record { namespace = namespace.Macros; tests = macro_tests; to = λ e. entry.Macros e; of = macros_of; places = λ p. p.macros }
