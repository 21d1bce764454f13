-- An index all of whose rows are free.
use Rattle.std.proofs.Common.{◌≡◌, List, [], sym, refl, ap}
use Rattle.std.proofs.lemmas.Bool.{false≢true}
use Rattle.item_scope.specs.IndexData.{IndexData, SoundData}
use Rattle.item_scope.specs.Views.{Sound}
use Rattle.indexes.specs.declared.entry.Entry.{Entry}
use Rattle.indexes.specs.declared.entry.PlaceKey.{PlaceKey}
use Rattle.indexes.specs.Spaces.{type_space, value_space, macro_space}
use Rattle.indexes.specs.Told.{key, place_of, places_of, view_of, no_places}

pub none_told : (came : PlaceKey → List Entry) → ((k : PlaceKey) → came k ≡ []) → places_of came ≡ no_places
none_told came none i = record {
  types = λ m n. ap (place_of type_space) (none (key type_space.namespace m n)) i;
  values = λ m n. ap (place_of value_space) (none (key value_space.namespace m n)) i;
  macros = λ m n. ap (place_of macro_space) (none (key macro_space.namespace m n)) i;
}

empty_sound : (f : IndexData) → SoundData f → Sound (view_of f no_places)
empty_sound f s = record {
  fixed = s;
  types = record { known = λ m n h. absurd (false≢true (sym h)); holders = λ m n. refl };
  values = record { known = λ m n h. absurd (false≢true (sym h)); holders = λ m n. refl };
  macros = record { known = λ m n h. absurd (false≢true (sym h)); holders = λ m n. refl };
}

pub fresh_sound : (f : IndexData) (came : PlaceKey → List Entry) → ((k : PlaceKey) → came k ≡ []) → SoundData f → Sound (view_of f (places_of came))
fresh_sound f came none s = rw (none_told came none) (empty_sound f s)
