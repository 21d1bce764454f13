-- Items and named imports shadow what a glob imports: what that says of a place to which entries came.
use Rattle.std.specs.Prelude.{◌≡◌, Bool, true, false, ◌⊎◌, ◌↔◌, List, [], find, Some}
use Rattle.std.specs.List.{Any, Contains}
use Rattle.item_scope.specs.declared.place.Place.{Place}
use Rattle.item_scope.specs.declared.place.Place.TheVariants.{Empty, ByGlob, ByName}
use Rattle.item_scope.specs.Places.{is_empty, is_by_glob, is_by_name}

pub record Shadows {T : Type 0} (glob : T → Bool) (before : Place T) (came : List T) (after : Place T) : Type 0 where
  -- held by name exactly when it began so or an entry came by name
  pub named : (is_by_name after ≡ true) ↔ ((is_by_name before ≡ true) ⊎ Any (λ e. glob e ≡ false) came)
  -- held by a glob exactly when it was not empty or an entry came, and it is not held by name
  pub globbed : (is_by_glob after ≡ true) ↔ (((is_empty before ≡ false) ⊎ (came ≡ [] → ⊥)) × (is_by_name after ≡ false))
  -- what holds it by name held it so before or came by name
  pub holder : (e : T) → after ≡ ByName e → (before ≡ ByName e) ⊎ (Contains came e × (glob e ≡ false))
  -- a glob's entry that holds it held it before, or it was empty and that is the first that a glob brought
  pub glob_holder : (e : T) → after ≡ ByGlob e → (before ≡ ByGlob e) ⊎ ((before ≡ Empty) × (find glob came ≡ Some e))
