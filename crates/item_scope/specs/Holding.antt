-- What holds a place by name gives way only to the same import's later word: what that says of a place to which entries came.
use Rattle.std.specs.Prelude.{◌≡◌, Bool, true, false, List, ◌∷◌, ◌++◌, None}
use Rattle.std.specs.List.{All}
use Rattle.entries.specs.declared.per_ns.Item.{Item}
use Rattle.entries.specs.Entries.{Both}
use Rattle.item_scope.specs.declared.place.Place.{Place}
use Rattle.item_scope.specs.declared.place.Place.TheVariants.{ByName}
use Rattle.item_scope.specs.Places.{is_by_name}

-- among these the import of e brings no other def
abbrev pub NoOther : {D M : Type 0} → Item D M → List (Item D M) → Type 0
NoOther e es = All (λ h. Both e.import h.import → h.def ≡ e.def) es

-- e held the place by name, then entries came
pub record HeldBy {D M : Type 0} (glob : Item D M → Bool) (e : Item D M) (came : List (Item D M)) (after : Place (Item D M)) : Type 0 where
  -- it is held by name ever after, and only ever by what the same import brought
  pub import : (f : Item D M) × (after ≡ ByName f) × (f.import ≡ e.import)
  -- an item that no import brought holds it against all that comes
  pub declared : e.import ≡ None → after ≡ ByName e
  -- so does any entry while its import brings no other def
  pub stays : NoOther e came → after ≡ ByName e
  -- it stands for the def that its import brought last
  pub latest : (f g : Item D M) (xs ys : List (Item D M)) → after ≡ ByName f → came ≡ xs ++ g ∷ ys → Both e.import g.import → glob g ≡ false → NoOther g ys → f.def ≡ g.def

pub record KeepsNames {D M : Type 0} (glob : Item D M → Bool) (before : Place (Item D M)) (came : List (Item D M)) (after : Place (Item D M)) : Type 0 where
  -- what held it by name before
  pub held : (e : Item D M) → before ≡ ByName e → HeldBy glob e came after
  -- where nothing did, the first that came by name
  pub first : (e : Item D M) (xs ys : List (Item D M)) → is_by_name before ≡ false → came ≡ xs ++ e ∷ ys → All (λ h. glob h ≡ true) xs → glob e ≡ false → HeldBy glob e ys after
