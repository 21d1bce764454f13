-- What rows tell when an entry has come to a place, and when a delivery has.
use Rattle.std.proofs.Common.{◌≡◌, ◌+◌, Bool, true, false, ◌&&◌, if◌then◌else◌, List, [], ◌∷◌, length, is_some, Some, None, Option, ◌==◌, refl, sym, ap, ◌∙◌, arith}
use Rattle.std.specs.Option.{option_map_or}
use Rattle.std.proofs.lemmas.Bool.{and_parts, eqb-true}
use Rattle.hir_def.specs.declared.ModuleId.{ModuleId}
use Rattle.hir_def.specs.declared.Name.{Name}
use Rattle.entries.specs.declared.per_ns.PerNs.{PerNs}
use Rattle.item_scope.specs.declared.delivery.Delivery.{Delivery}
use Rattle.item_scope.specs.declared.place.Place.{Place}
use Rattle.item_scope.specs.Places.{stepped}
use Rattle.item_scope.specs.Views.{Places, View}
use Rattle.item_scope.specs.Deliveries.{arrived, brought, delivered, any_changed}
use Rattle.variants.specs.declared.own_places.AnyPlace.{AnyPlace}
use Rattle.variants.specs.declared.own_places.AnyPlace.TheVariants as any
use Rattle.variants.specs.declared.own_places.OwnPlace.{OwnPlace}
use Rattle.variants.specs.Spaces.{Space, type_space, value_space, macro_space}
use Rattle.variants.specs.Own.{own, put, told, came, copied, overlaid, came_all, any_changed_at, copies}
use Rattle.variants.proofs.Rows.{length_came}

same_module : (a b : ModuleId) → a.0 ≡ b.0 → a ≡ b
same_module a b e i = record { 0 = e i }

same_name : (a b : Name) → a.0 ≡ b.0 → a ≡ b
same_name a b e i = record { 0 = e i }

-- a place comes back from a row
abbrev Back : {T : Type 0} → Space T → Type 0
Back s = (p : Place _) → s.of (s.to p) ≡ Some p

-- no row is of two namespaces
abbrev Apart : {T U : Type 0} → Space T → Space U → Type 0
Apart s u = (x : AnyPlace) → (is_some (s.of x) && is_some (u.of x)) ≡ false

-- a row that is written, in its namespace
module _ {T : Type 0} (s : Space T) (back : Back s) (m : ModuleId) (n : Name) where
  own_put : (rows : List OwnPlace) (p : Place T) (a : ModuleId) (b : Name) → own s (put s rows m n p) a b ≡ (if a.0 == m.0 && b.0 == n.0 then Some p else own s rows a b)
  own_put [] p a b = grind (arith, back p)
  own_put (r ∷ rows) p a b = grind (arith, back p, own_put rows p a b)

-- and in another
module _ {T U : Type 0} (s : Space T) (u : Space U) (back : Back s) (apart : Apart s u) (m : ModuleId) (n : Name) where
  own_beside : (rows : List OwnPlace) (p : Place T) (a : ModuleId) (b : Name) → own u (put s rows m n p) a b ≡ own u rows a b
  own_beside [] p a b = grind (arith, back p, apart (s.to p))
  own_beside (r ∷ rows) p a b = grind (arith, back p, apart (s.to p), apart r.place, own_beside rows p a b)

-- what rows tell of a namespace when an entry of it has come
module _ {T : Type 0} (s : Space T) (back : Back s) (rows : List OwnPlace) (below : Places T) (m : ModuleId) (n : Name) where
  at : (x : T) (a : ModuleId) (b : Name) (here : Bool) → (a.0 == m.0 && b.0 == n.0) ≡ here
      → option_map_or (λ p. p) (if here then Some (stepped s.tests (told s rows below m n) x).place else own s rows a b) (below a b) ≡ (if here then (stepped s.tests (told s rows below a b) x).place else told s rows below a b)
  at x a b true here =
      let q = and_parts (a.0 == m.0) (b.0 == n.0) here in
      let ea = same_module a m (eqb-true a.0 m.0 q.0) in
      let eb = same_name b n (eqb-true b.0 n.0 q.1) in
      ap (λ (p : Place T). (stepped s.tests p x).place) (sym (ap (λ (c : ModuleId). told s rows below c b) ea ∙ ap (λ (c : Name). told s rows below m c) eb))
  at x a b false here = refl

  came_told : (e : Option T) → told s (came s rows m n (told s rows below m n) e) below ≡ arrived s.tests (told s rows below) m n e
  came_told None i = told s rows below
  came_told (Some x) i = λ a b. each a b i
    where
      each : (a : ModuleId) (b : Name) → told s (put s rows m n (stepped s.tests (told s rows below m n) x).place) below a b ≡ arrived s.tests (told s rows below) m n (Some x) a b
      each a b =
          ap (λ o. option_map_or (λ p. p) o (below a b)) (own_put s back m n rows (stepped s.tests (told s rows below m n) x).place a b)
          ∙ at x a b (a.0 == m.0 && b.0 == n.0) refl

-- and when one of another has
module _ {T U : Type 0} (s : Space T) (u : Space U) (back : Back s) (apart : Apart s u) (rows : List OwnPlace) (m : ModuleId) (n : Name) (p : Place T) where
  came_beside : (e : Option T) (a : ModuleId) (b : Name) → own u (came s rows m n p e) a b ≡ own u rows a b
  came_beside None a b = refl
  came_beside (Some x) a b = own_beside s u back apart m n rows (stepped s.tests p x).place a b

  told_beside : (e : Option T) (below : Places U) → told u (came s rows m n p e) below ≡ told u rows below
  told_beside e below i = λ a b. option_map_or (λ q. q) (came_beside e a b i) (below a b)

  copied_beside : (e : Option T) (f : Option U) → copied u (came s rows m n p e) m n f ≡ copied u rows m n f
  copied_beside e None = refl
  copied_beside e (Some y) = ap (λ o. if is_some o then 0 else 1) (came_beside e m n)

-- where rows tell the namespace as other rows do
came_as : {T : Type 0} (s : Space T) → Back s → (rows now : List OwnPlace) (below : Places T) (m : ModuleId) (n : Name) (e : Option T) → told s now below ≡ told s rows below
    → told s (came s now m n (told s rows below m n) e) below ≡ arrived s.tests (told s rows below) m n e
came_as s back rows now below m n e is =
    ap (λ (f : Places _). told s (came s now m n (f m n) e) below) (sym is)
    ∙ came_told s back now below m n e
    ∙ ap (λ (f : Places _). arrived s.tests f m n e) is

type_back : Back type_space
type_back p = refl

value_back : Back value_space
value_back p = refl

macro_back : Back macro_space
macro_back p = refl

types_values : Apart type_space value_space
types_values = elim [ any.Types p ↦ refl | any.Values p ↦ refl | any.Macros p ↦ refl ]

types_macros : Apart type_space macro_space
types_macros = elim [ any.Types p ↦ refl | any.Values p ↦ refl | any.Macros p ↦ refl ]

values_types : Apart value_space type_space
values_types = elim [ any.Types p ↦ refl | any.Values p ↦ refl | any.Macros p ↦ refl ]

values_macros : Apart value_space macro_space
values_macros = elim [ any.Types p ↦ refl | any.Values p ↦ refl | any.Macros p ↦ refl ]

macros_types : Apart macro_space type_space
macros_types = elim [ any.Types p ↦ refl | any.Values p ↦ refl | any.Macros p ↦ refl ]

macros_values : Apart macro_space value_space
macros_values = elim [ any.Types p ↦ refl | any.Values p ↦ refl | any.Macros p ↦ refl ]

-- a delivery
module _ (v : View) (rows : List OwnPlace) (d : Delivery) where
  abbrev w : View
  w = overlaid v rows

  abbrev m : ModuleId
  m = d.receiver

  abbrev n : Name
  n = d.name

  abbrev e : PerNs
  e = brought d

  abbrev r1 : List OwnPlace
  r1 = came type_space rows m n (w.types m n) e.types

  abbrev r2 : List OwnPlace
  r2 = came value_space r1 m n (w.values m n) e.values

  abbrev r3 : List OwnPlace
  r3 = came macro_space r2 m n (w.macros m n) e.macros

  types_told : told type_space r3 v.types ≡ arrived type_space.tests w.types m n e.types
  types_told =
      told_beside macro_space type_space macro_back macros_types r2 m n (w.macros m n) e.macros v.types
      ∙ told_beside value_space type_space value_back values_types r1 m n (w.values m n) e.values v.types
      ∙ came_told type_space type_back rows v.types m n e.types

  values_told : told value_space r3 v.values ≡ arrived value_space.tests w.values m n e.values
  values_told =
      told_beside macro_space value_space macro_back macros_values r2 m n (w.macros m n) e.macros v.values
      ∙ came_as value_space value_back rows r1 v.values m n e.values (told_beside type_space value_space type_back types_values rows m n (w.types m n) e.types v.values)

  macros_told : told macro_space r3 v.macros ≡ arrived macro_space.tests w.macros m n e.macros
  macros_told =
      came_as macro_space macro_back rows r2 v.macros m n e.macros
      (told_beside value_space macro_space value_back values_macros r1 m n (w.values m n) e.values v.macros
      ∙ told_beside type_space macro_space type_back types_macros rows m n (w.types m n) e.types v.macros)

  pub tells_delivered : overlaid v (came_all (w.types m n) (w.values m n) (w.macros m n) rows d) ≡ delivered w d
  tells_delivered i = record { fixed = v.fixed; types = types_told i; values = values_told i; macros = macros_told i }

  -- a row more for each place that is copied
  values_copied : copied value_space r1 m n e.values ≡ copied value_space rows m n e.values
  values_copied = copied_beside type_space value_space type_back types_values rows m n (w.types m n) e.types e.values

  macros_copied : copied macro_space r2 m n e.macros ≡ copied macro_space rows m n e.macros
  macros_copied =
      copied_beside value_space macro_space value_back values_macros r1 m n (w.values m n) e.values e.macros
      ∙ copied_beside type_space macro_space type_back types_macros rows m n (w.types m n) e.types e.macros

  pub counts_copies : length (came_all (w.types m n) (w.values m n) (w.macros m n) rows d) ≡ length rows + copies rows d
  counts_copies =
      let a = length_came type_space m n rows (w.types m n) e.types in
      let b = length_came value_space m n r1 (w.values m n) e.values in
      let c = length_came macro_space m n r2 (w.macros m n) e.macros in
      let f = values_copied in
      let g = macros_copied in
      omega arith

pub tells_changed : (w : View) (d : Delivery) → any_changed_at (w.types d.receiver d.name) (w.values d.receiver d.name) (w.macros d.receiver d.name) d ≡ any_changed w d
tells_changed w d = grind arith
