-- What is told of places by the entries that rows hold for them.
use Rattle.std.specs.Prelude.{◌≡◌, List, is_some, Some, fold}
use Rattle.std.specs.Option.{option_map_or}
use Rattle.std.proofs.Common.{refl}
use Rattle.hir_def.specs.declared.ModuleId.{ModuleId}
use Rattle.hir_def.specs.declared.Name.{Name}
use Rattle.hir_def.specs.declared.Namespace.{Namespace}
use Rattle.hir_def.specs.contracts.NamespacePartialEq.TheImpl.{eq-value as same_namespace}
use Rattle.item_scope.specs.declared.place.Place.{Place}
use Rattle.item_scope.specs.declared.place.Place.TheVariants.{Empty}
use Rattle.item_scope.specs.IndexData.{IndexData}
use Rattle.item_scope.specs.Places.{stepped}
use Rattle.item_scope.specs.Views.{View}
use Rattle.indexes.specs.declared.entry.Entry.{Entry}
use Rattle.indexes.specs.declared.entry.Entry.TheVariants as entry
use Rattle.indexes.specs.declared.entry.PlaceKey.{PlaceKey}
use Rattle.indexes.specs.Spaces.{AllPlaces, Space, namespace_of, type_space, value_space, macro_space}

abbrev pub key : Namespace → ModuleId → Name → PlaceKey
key s m n = record { namespace = s; at = m; name = n }

-- a place when an entry has come to it; one of another namespace never does
abbrev pub next : {T : Type 0} → Space T → Place T → Entry → Place T
next s p e = option_map_or (λ x. (stepped s.tests p x).place) (s.of e) p

-- the place that the steps make of the entries that came
abbrev pub place_of : {T : Type 0} → Space T → List Entry → Place T
place_of s = fold (next s) Empty

-- all places, by the entries that came to each
abbrev pub places_of : (PlaceKey → List Entry) → AllPlaces
places_of came = record {
  types = λ m n. place_of type_space (came (key type_space.namespace m n));
  values = λ m n. place_of value_space (came (key value_space.namespace m n));
  macros = λ m n. place_of macro_space (came (key macro_space.namespace m n));
}

-- an index that tells these places and the data beside them
abbrev pub view_of : IndexData → AllPlaces → View
view_of f p = record { fixed = f; types = p.types; values = p.values; macros = p.macros }

-- an index whose places are all empty
abbrev pub no_places : AllPlaces
no_places = record { types = λ m n. Empty; values = λ m n. Empty; macros = λ m n. Empty }

-- what is true of each namespace: an entry comes back from a row, one of the namespace always does, and its places are those
-- that are told by its entries
pub record SpaceLaws {T : Type 0} (s : Space T) : Type 0 where
  pub back : (x : T) → s.of (s.to x) ≡ Some x
  pub own : (e : Entry) → is_some (s.of e) ≡ same_namespace.it (namespace_of e) s.namespace
  pub told : (came : PlaceKey → List Entry) (m : ModuleId) (n : Name) → s.places (places_of came) m n ≡ place_of s (came (key s.namespace m n))

pub type_laws : SpaceLaws type_space
type_laws = record { back = λ x. refl; own = elim [ entry.Types e ↦ refl | entry.Values e ↦ refl | entry.Macros e ↦ refl ]; told = λ came m n. refl }

pub value_laws : SpaceLaws value_space
value_laws = record { back = λ x. refl; own = elim [ entry.Types e ↦ refl | entry.Values e ↦ refl | entry.Macros e ↦ refl ]; told = λ came m n. refl }

pub macro_laws : SpaceLaws macro_space
macro_laws = record { back = λ x. refl; own = elim [ entry.Types e ↦ refl | entry.Values e ↦ refl | entry.Macros e ↦ refl ]; told = λ came m n. refl }
