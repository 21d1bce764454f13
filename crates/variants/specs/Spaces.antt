-- The three namespaces, each by how its places stand in rows.
use Rattle.std.specs.Prelude.{Some, None, Option}
use Rattle.item_scope.specs.declared.place.Place.{Place}
use Rattle.item_scope.specs.Places.{Tests}
use Rattle.item_scope.specs.Views.{Types, Values, Macros}
use Rattle.item_scope.specs.Deliveries.{type_tests, value_tests, macro_tests}
use Rattle.variants.specs.declared.own_places.AnyPlace.{AnyPlace}
use Rattle.variants.specs.declared.own_places.AnyPlace.TheVariants as any

abbrev pub types_of : AnyPlace → Option (Place Types)
types_of (any.Types p) = Some p
types_of (any.Values p) = None
types_of (any.Macros p) = None

abbrev pub values_of : AnyPlace → Option (Place Values)
values_of (any.Types p) = None
values_of (any.Values p) = Some p
values_of (any.Macros p) = None

abbrev pub macros_of : AnyPlace → Option (Place Macros)
macros_of (any.Types p) = None
macros_of (any.Values p) = None
macros_of (any.Macros p) = Some p

-- a namespace, with the tests of its steps, and its places as places of any namespace and back
pub record Space (T : Type 0) : Type 0 where
  pub tests : Tests T
  pub to : Place T → AnyPlace
  pub of : AnyPlace → Option (Place T)

abbrev pub type_space : Space Types
type_space = record { tests = type_tests; to = λ p. any.Types p; of = types_of }

abbrev pub value_space : Space Values
value_space = record { tests = value_tests; to = λ p. any.Values p; of = values_of }

abbrev pub macro_space : Space Macros
macro_space = record { tests = macro_tests; to = λ p. any.Macros p; of = macros_of }
