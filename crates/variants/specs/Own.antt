-- Places of one's own in rows, what an index with such rows over another one tells, and what deliveries make of them.
use Rattle.std.specs.Prelude.{ℕ, ◌+◌, ◌-◌, Bool, false, if◌then◌else◌, ◌&&◌, ◌||◌, ◌==◌, List, [], ◌∷◌, length, is_some, Some, None, Option}
use Rattle.std.specs.Option.{option_map_or}
use Rattle.hir_def.specs.declared.ModuleId.{ModuleId}
use Rattle.hir_def.specs.declared.Name.{Name}
use Rattle.item_scope.specs.declared.delivery.Delivery.{Delivery}
use Rattle.item_scope.specs.declared.place.Place.{Place}
use Rattle.item_scope.specs.Places.{takes, stepped}
use Rattle.item_scope.specs.Views.{Types, Values, Macros, Places, View}
use Rattle.item_scope.specs.Deliveries.{brought, refused}
use Rattle.variants.specs.declared.own_places.AnyPlace.{AnyPlace}
use Rattle.variants.specs.declared.own_places.OwnPlace.{OwnPlace}
use Rattle.variants.specs.Spaces.{Space, type_space, value_space, macro_space}

abbrev pub row : ModuleId → Name → AnyPlace → OwnPlace
row m n p = record { at = m; name = n; place = p }

module _ {T : Type 0} (s : Space T) where
  -- whether a row is of the name's place in the namespace
  abbrev pub is_of : ModuleId → Name → OwnPlace → Bool
  is_of m n r = r.at.0 == m.0 && (r.name.0 == n.0 && is_some (s.of r.place))

  -- the place, if a row is of it
  abbrev pub own : List OwnPlace → ModuleId → Name → Option (Place T)
  own [] m n = None
  own (r ∷ rows) m n = if is_of m n r then s.of r.place else own rows m n

  -- the rows when the place's is written, or one behind all if it has none
  abbrev pub put : List OwnPlace → ModuleId → Name → Place T → List OwnPlace
  put [] m n p = row m n (s.to p) ∷ []
  put (r ∷ rows) m n p = if is_of m n r then row m n (s.to p) ∷ rows else r ∷ put rows m n p

  -- the places of the namespace: one's own, and those below where there is none
  abbrev pub told : List OwnPlace → Places T → Places T
  told rows below = λ m n. option_map_or (λ p. p) (own rows m n) (below m n)

  -- the rows when an entry, if there is one, has come to a place that was told so
  abbrev pub came : List OwnPlace → ModuleId → Name → Place T → Option T → List OwnPlace
  came rows m n p None = rows
  came rows m n p (Some e) = put rows m n (stepped s.tests p e).place

  -- whether the entry is stored there
  abbrev pub changed_at : Place T → Option T → Bool
  changed_at p None = false
  changed_at p (Some e) = takes s.tests p e

  -- how many places are copied for an entry, if there is one
  abbrev pub copied : List OwnPlace → ModuleId → Name → Option T → ℕ
  copied rows m n None = 0
  copied rows m n (Some e) = if is_some (own rows m n) then 0 else 1

-- what an index tells that has the rows over one that tells v
abbrev pub overlaid : View → List OwnPlace → View
overlaid v rows = record {
  fixed = v.fixed;
  types = told type_space rows v.types;
  values = told value_space rows v.values;
  macros = told macro_space rows v.macros;
}

-- the rows when the entries of a delivery have come to the name's places, which were told so
abbrev pub came_all : Place Types → Place Values → Place Macros → List OwnPlace → Delivery → List OwnPlace
came_all t v x rows d =
    let m = d.receiver in
    let n = d.name in
    let e = brought d in
    came macro_space (came value_space (came type_space rows m n t e.types) m n v e.values) m n x e.macros

-- whether any of the entries is stored in its place
abbrev pub any_changed_at : Place Types → Place Values → Place Macros → Delivery → Bool
any_changed_at t v x d = changed_at type_space t (brought d).types || (changed_at value_space v (brought d).values || changed_at macro_space x (brought d).macros)

-- how many places are copied for a delivery
abbrev pub copies : List OwnPlace → Delivery → ℕ
copies rows d =
    copied type_space rows d.receiver d.name (brought d).types
    + copied value_space rows d.receiver d.name (brought d).values
    + copied macro_space rows d.receiver d.name (brought d).macros

-- the rows when a delivery was made to an index with the rows over one that tells v: refused, it leaves them as they are
abbrev pub rows_after : View → List OwnPlace → Delivery → List OwnPlace
rows_after v rows d =
    let w = overlaid v rows in
    let m = d.receiver in
    let n = d.name in
    if is_some (refused w (64 - length rows) d) then rows else came_all (w.types m n) (w.values m n) (w.macros m n) rows d
