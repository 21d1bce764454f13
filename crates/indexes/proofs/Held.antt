-- What holds a place of which one row tells.
use Rattle.std.proofs.Common.{◌≡◌, true, false, if◌then◌else◌, Some, None, Option, refl, sym}
use Rattle.std.specs.Option.{option_and_then}
use Rattle.item_scope.specs.declared.place.Place.TheVariants.{Empty, ByGlob, ByName}
use Rattle.item_scope.specs.Places.{holder, held}
use Rattle.indexes.specs.declared.entry.Entry.{Entry}
use Rattle.indexes.specs.Spaces.{Space}
use Rattle.indexes.specs.Told.{next, place_of}
use Rattle.indexes.specs.Table.{one_or_none}

module _ {T : Type 0} (s : Space T) where
  holds : (x : T) → holder (held s.tests x) ≡ Some x
  holds x = elim (s.tests.glob x) as (λ b. holder (if b then ByGlob x else ByName x) ≡ Some x) [
    | true ↦ refl
    | false ↦ refl
  ]

  entered : (e : Entry) (o : Option T) → s.of e ≡ o → o ≡ holder (next s Empty e)
  entered e None is = rw is refl
  entered e (Some x) is = rw is (sym (holds x))

  pub held_by_row : (o : Option Entry) → option_and_then s.of o ≡ holder (place_of s (one_or_none o))
  held_by_row None = refl
  held_by_row (Some e) = entered e (s.of e) refl
