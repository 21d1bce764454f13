-- A delivery that passes the tests names only what exists, and leaves an index sound.
use Rattle.std.proofs.Common.{◌≡◌, ℕ, ◌<◌, Bool, true, false, if◌then◌else◌, not, ◌&&◌, Some, None, Option, ◌==◌, nat_lt, refl, ap, arith}
use Rattle.std.specs.Option.{option_map, option_map_or}
use Rattle.std.proofs.lemmas.Bool.{and_from, and_parts, eqb-true, ltb-true}
use Rattle.hir_def.specs.declared.ModuleId.{ModuleId}
use Rattle.hir_def.specs.declared.Name.{Name}
use Rattle.entries.specs.declared.per_ns.Item.{Item}
use Rattle.entries.specs.Entries.{is_nothing}
use Rattle.item_scope.specs.declared.delivery.Delivery.{Delivery}
use Rattle.item_scope.specs.declared.place.Place.{Place}
use Rattle.item_scope.specs.Places.{Tests, takes, held, stepped, is_empty}
use Rattle.item_scope.specs.IndexData.{IndexData, def_in, macro_in, item_in}
use Rattle.item_scope.specs.Views.{Places, View, place_in, PlacesIn, Sound}
use Rattle.item_scope.specs.Deliveries.{under_import, brought, arrived, delivered, entry_in, faulty, type_tests, value_tests, macro_tests}

-- what the tests of a delivery say, where none refuses it
pub record Fits (f : IndexData) (d : Delivery) : Type 0 where
  pub receiver : d.receiver.0 < f.tree.modules
  pub name : d.name.0 < f.names
  pub types : entry_in def_in f (brought d).types ≡ true
  pub values : entry_in def_in f (brought d).values ≡ true
  pub macros : entry_in macro_in f (brought d).macros ≡ true

-- a test that refuses did not
passed : {A : Type 0} (good : Bool) (fault : A) (rest : Option A) → (if not good then Some fault else rest) ≡ None → (good ≡ true) × (rest ≡ None)
passed true fault rest e = (refl, e)
passed false fault rest e = absurd (cc)

filled_some : {A : Type 0} (nothing : Bool) (fault : A) (rest : Option A) → (if nothing then Some fault else rest) ≡ None → rest ≡ None
filled_some false fault rest e = e
filled_some true fault rest e = absurd (cc)

-- an import is never tested
entry_under : {D M : Type 0} (def_in : IndexData → D → Bool) (f : IndexData) (i : Option M) (e : Option (Item D M)) → entry_in def_in f e ≡ true → entry_in def_in f (option_map (under_import i) e) ≡ true
entry_under def_in f i None h = refl
entry_under def_in f i (Some it) h = h

pub fits : (f : IndexData) (d : Delivery) → faulty f d ≡ None → Fits f d
fits f d e =
    let a = passed (nat_lt d.receiver.0 f.tree.modules) _ _ e in
    let b = passed (nat_lt d.name.0 f.names) _ _ a.1 in
    let c = filled_some (is_nothing d.entries) _ _ b.1 in
    let t = passed (entry_in def_in f d.entries.types) _ _ c in
    let v = passed (entry_in def_in f d.entries.values) _ _ t.1 in
    let m = passed (entry_in macro_in f d.entries.macros) _ _ v.1 in
    record {
      receiver = ltb-true _ _ a.0;
      name = ltb-true _ _ b.0;
      types = entry_under def_in f _ d.entries.types t.0;
      values = entry_under def_in f _ d.entries.values v.0;
      macros = entry_under macro_in f _ d.entries.macros m.0;
    }

module _ {T : Type 0} (t : Tests T) (exists : T → Bool) where
  held_in : (e : T) (glob : Bool) → t.glob e ≡ glob → exists e ≡ true → place_in exists t.glob (held t e) ≡ true
  held_in e true g h = rw g (and_from _ _ h g)
  held_in e false g h = rw g (and_from _ _ h (ap not g))

  -- a place to which an entry came
  stepped_in : (p : Place T) (e : T) → place_in exists t.glob p ≡ true → exists e ≡ true → place_in exists t.glob (stepped t p e).place ≡ true
  stepped_in p e good h =
      elim (takes t p e) as (λ c. place_in exists t.glob (if c then held t e else p) ≡ true) [ true ↦ held_in e (t.glob e) refl h | false ↦ good ]

  -- the places of a namespace to which an entry came
  pub arrived_in : (modules names : ℕ) (f : Places T) (m : ModuleId) (n : Name) (e : Option T) → m.0 < modules → n.0 < names → option_map_or exists e true ≡ true
      → PlacesIn modules names exists t.glob f → PlacesIn modules names exists t.glob (arrived t f m n e)
  arrived_in modules names f m n None lm ln h s = s
  arrived_in modules names f m n (Some e) lm ln h s =
      record {
        known = λ a b. known a b (a.0 == m.0 && b.0 == n.0) refl;
        holders = λ a b. holders a b (a.0 == m.0 && b.0 == n.0);
      }
    where
      known : (a : ModuleId) (b : Name) (here : Bool) → (a.0 == m.0 && b.0 == n.0) ≡ here → is_empty (if here then (stepped t (f a b) e).place else f a b) ≡ false → (a.0 < modules) × (b.0 < names)
      known a b true here h =
          let q = and_parts (a.0 == m.0) (b.0 == n.0) here in
          let ea = eqb-true a.0 m.0 q.0 in
          let eb = eqb-true b.0 n.0 q.1 in
          (omega arith, omega arith)
      known a b false here h = s.known a b h

      holders : (a : ModuleId) (b : Name) (here : Bool) → place_in exists t.glob (if here then (stepped t (f a b) e).place else f a b) ≡ true
      holders a b true = stepped_in (f a b) e (s.holders a b) h
      holders a b false = s.holders a b

pub delivered_sound : (v : View) (d : Delivery) → faulty v.fixed d ≡ None → Sound v → Sound (delivered v d)
delivered_sound v d e s =
    let a = fits v.fixed d e in
    record {
      fixed = s.fixed;
      types = arrived_in type_tests (item_in def_in v.fixed) _ _ v.types _ _ (brought d).types a.receiver a.name a.types s.types;
      values = arrived_in value_tests (item_in def_in v.fixed) _ _ v.values _ _ (brought d).values a.receiver a.name a.values s.values;
      macros = arrived_in macro_tests (item_in macro_in v.fixed) _ _ v.macros _ _ (brought d).macros a.receiver a.name a.macros s.macros;
    }
