-- Entries that come into rows are told as the steps say, and take as many rows as is promised.
use Rattle.std.proofs.Common.{◌≡◌, ℕ, ◌+◌, ◌≤◌, Bool, true, false, if◌then◌else◌, ◌&&◌, ◌||◌, List, [], ◌∷◌, length, drop, Some, None, Option, ◌==◌, refl, sym, ap, ◌∙◌, arith}
use Rattle.std.specs.Option.{option_map}
use Rattle.std.proofs.lemmas.Bool.{and_parts, eqb-true}
use Rattle.std.proofs.lemmas.List.{drop-drop}
use Rattle.std.proofs.lemmas.List.Sums.{fold-append}
use Rattle.hir_def.specs.declared.ModuleId.{ModuleId}
use Rattle.hir_def.specs.declared.Name.{Name}
use Rattle.entries.specs.declared.per_ns.PerNs.{PerNs}
use Rattle.item_scope.specs.declared.delivery.Delivery.{Delivery}
use Rattle.item_scope.specs.declared.place.Place.{Place}
use Rattle.item_scope.specs.declared.place.Place.TheVariants.{Empty}
use Rattle.item_scope.specs.IndexData.{IndexData}
use Rattle.item_scope.specs.Places.{takes, held, stepped}
use Rattle.item_scope.specs.Views.{Places, Types, Values, Macros}
use Rattle.item_scope.specs.Deliveries.{arrived, brought, delivered, count_of}
use Rattle.keyed.specs.Entries.{Contents}
use Rattle.indexes.specs.declared.entry.Entry.{Entry}
use Rattle.indexes.specs.Spaces.{AllPlaces, Space, type_space, value_space, macro_space}
use Rattle.indexes.specs.Told.{SpaceLaws, key, next, place_of, view_of, type_laws, value_laws, macro_laws}
use Rattle.indexes.specs.Storing.{Storing, keep, told, told_of, come, row_for, Stores, Comes}

same_module : (a b : ModuleId) → a.0 ≡ b.0 → a ≡ b
same_module a b e i = record { 0 = e i }

same_name : (a b : Name) → a.0 ≡ b.0 → a ≡ b
same_name a b e i = record { 0 = e i }

-- the places of a namespace, where one of them holds what the steps make of it and of an entry
module _ {T : Type 0} (space : Space T) (laws : SpaceLaws space) where
  next_own : (p : Place T) (x : T) → next space p (space.to x) ≡ (stepped space.tests p x).place
  next_own p x = rw (laws.back x) refl

  kept : (each : Bool) (es : List Entry) (x : T) → place_of space (keep each es (takes space.tests (place_of space es) x) (space.to x)) ≡ (stepped space.tests (place_of space es) x).place
  kept true es x = fold-append (next space) Empty es (space.to x ∷ []) ∙ next_own (place_of space es) x
  kept false es x =
      elim (takes space.tests (place_of space es) x) as (λ b. place_of space (if b then space.to x ∷ [] else es) ≡ (if b then held space.tests x else place_of space es)) [
        | true ↦ next_own Empty x
        | false ↦ refl
      ]

  -- at a place that may be the one to which the entry came
  stepped_at : (each : Bool) (f : ModuleId → Name → List Entry) (m : ModuleId) (n : Name) (x : T) (a : ModuleId) (b : Name) (here : Bool) → (a.0 == m.0 && b.0 == n.0) ≡ here
      → place_of space (if here then keep each (f a b) (takes space.tests (place_of space (f m n)) x) (space.to x) else f a b) ≡ (if here then (stepped space.tests (place_of space (f a b)) x).place else place_of space (f a b))
  stepped_at each f m n x a b true is =
      let p = and_parts (a.0 == m.0) (b.0 == n.0) is in
      let ea = same_module a m (eqb-true a.0 m.0 p.0) in
      let eb = same_name b n (eqb-true b.0 n.0 p.1) in
      let e : place_of space (f m n) ≡ place_of space (f a b) = sym (ap (λ (c : ModuleId). place_of space (f c b)) ea ∙ ap (λ (c : Name). place_of space (f m c)) eb) in
      ap (λ (q : Place T). place_of space (keep each (f a b) (takes space.tests q x) (space.to x))) e ∙ kept each (f a b) x
  stepped_at each f m n x a b false is = refl

module _ {K : Type 0} (s : Storing K) (before after : Contents K Entry) (m : ModuleId) (n : Name) where
  abbrev old : AllPlaces
  old = told s before.entries

  pub types_come : (e : Option Types) (holds : Bool) → Comes s type_space before m n e holds after → told s after.entries ≡ record old { types = arrived type_space.tests old.types m n e }
  types_come None holds c i = record {
    types = λ a b. place_of type_space (c.told (key type_space.namespace a b) i);
    values = λ a b. place_of value_space (c.told (key value_space.namespace a b) i);
    macros = λ a b. place_of macro_space (c.told (key macro_space.namespace a b) i);
  }
  types_come (Some x) holds c i = record {
    types = λ a b. own a b i;
    values = λ a b. place_of value_space (c.told (key value_space.namespace a b) i);
    macros = λ a b. place_of macro_space (c.told (key macro_space.namespace a b) i);
  }
    where
      own : (a : ModuleId) (b : Name) → told_of s type_space after.entries a b ≡ arrived type_space.tests old.types m n (Some x) a b
      own a b =
          ap (place_of type_space) (rw c.answers at (c.told (key type_space.namespace a b)))
          ∙ stepped_at type_space type_laws s.each (λ c d. s.came before.entries (key type_space.namespace c d)) m n x a b (a.0 == m.0 && b.0 == n.0) refl

  pub values_come : (e : Option Values) (holds : Bool) → Comes s value_space before m n e holds after → told s after.entries ≡ record old { values = arrived value_space.tests old.values m n e }
  values_come None holds c i = record {
    types = λ a b. place_of type_space (c.told (key type_space.namespace a b) i);
    values = λ a b. place_of value_space (c.told (key value_space.namespace a b) i);
    macros = λ a b. place_of macro_space (c.told (key macro_space.namespace a b) i);
  }
  values_come (Some x) holds c i = record {
    types = λ a b. place_of type_space (c.told (key type_space.namespace a b) i);
    values = λ a b. own a b i;
    macros = λ a b. place_of macro_space (c.told (key macro_space.namespace a b) i);
  }
    where
      own : (a : ModuleId) (b : Name) → told_of s value_space after.entries a b ≡ arrived value_space.tests old.values m n (Some x) a b
      own a b =
          ap (place_of value_space) (rw c.answers at (c.told (key value_space.namespace a b)))
          ∙ stepped_at value_space value_laws s.each (λ c d. s.came before.entries (key value_space.namespace c d)) m n x a b (a.0 == m.0 && b.0 == n.0) refl

  pub macros_come : (e : Option Macros) (holds : Bool) → Comes s macro_space before m n e holds after → told s after.entries ≡ record old { macros = arrived macro_space.tests old.macros m n e }
  macros_come None holds c i = record {
    types = λ a b. place_of type_space (c.told (key type_space.namespace a b) i);
    values = λ a b. place_of value_space (c.told (key value_space.namespace a b) i);
    macros = λ a b. place_of macro_space (c.told (key macro_space.namespace a b) i);
  }
  macros_come (Some x) holds c i = record {
    types = λ a b. place_of type_space (c.told (key type_space.namespace a b) i);
    values = λ a b. place_of value_space (c.told (key value_space.namespace a b) i);
    macros = λ a b. own a b i;
  }
    where
      own : (a : ModuleId) (b : Name) → told_of s macro_space after.entries a b ≡ arrived macro_space.tests old.macros m n (Some x) a b
      own a b =
          ap (place_of macro_space) (rw c.answers at (c.told (key macro_space.namespace a b)))
          ∙ stepped_at macro_space macro_laws s.each (λ c d. s.came before.entries (key macro_space.namespace c d)) m n x a b (a.0 == m.0 && b.0 == n.0) refl

-- an entry takes one row at most
pub row_within : {T : Type 0} (each : Bool) (places : Places T) (m : ModuleId) (n : Name) (e : Option T) → row_for each places m n e ≤ count_of e
row_within each places m n None = omega arith
row_within each places m n (Some e) = at_most_one (each || _)
  where
    at_most_one : (b : Bool) → (if b then 1 else 0) ≤ 1
    at_most_one true = omega arith
    at_most_one false = omega arith

pub count_map : {A B : Type 0} (f : A → B) (o : Option A) → count_of (option_map f o) ≡ count_of o
count_map f None = refl
count_map f (Some x) = refl

-- three that come in turn are a delivery
module _ {K : Type 0} (s : Storing K) (c0 c1 c2 c3 : Contents K Entry) (d : Delivery) (b : PerNs) (t v x : Bool) (is : b ≡ brought d)
    (types : Comes s type_space c0 d.receiver d.name b.types t c1)
    (values : Comes s value_space c1 d.receiver d.name b.values v c2)
    (macros : Comes s macro_space c2 d.receiver d.name b.macros x c3) where
  abbrev p0 : AllPlaces
  p0 = told s c0.entries

  first : told s c1.entries ≡ record p0 { types = arrived type_space.tests p0.types d.receiver d.name b.types }
  first = types_come s c0 c1 d.receiver d.name b.types t types

  second : told s c2.entries ≡ record p0 { types = arrived type_space.tests p0.types d.receiver d.name b.types; values = arrived value_space.tests p0.values d.receiver d.name b.values }
  second =
      values_come s c1 c2 d.receiver d.name b.values v values
      ∙ ap (λ (p : AllPlaces). record p { values = arrived value_space.tests p.values d.receiver d.name b.values }) first

  third : told s c3.entries ≡ record { types = arrived type_space.tests p0.types d.receiver d.name b.types; values = arrived value_space.tests p0.values d.receiver d.name b.values; macros = arrived macro_space.tests p0.macros d.receiver d.name b.macros }
  third =
      macros_come s c2 c3 d.receiver d.name b.macros x macros
      ∙ ap (λ (p : AllPlaces). record p { macros = arrived macro_space.tests p.macros d.receiver d.name b.macros }) second

  pub all_come : (f : IndexData) → view_of f (told s c3.entries) ≡ delivered (view_of f p0) d
  all_come f = rw is at (ap (view_of f) third)

  values_as_before : told_of s value_space c1.entries ≡ p0.values
  values_as_before = ap (λ (p : AllPlaces). p.values) first

  macros_as_before : told_of s macro_space c2.entries ≡ p0.macros
  macros_as_before = ap (λ (p : AllPlaces). p.macros) second

  abbrev k1 : ℕ
  k1 = row_for s.each p0.types d.receiver d.name b.types

  abbrev k2 : ℕ
  k2 = row_for s.each p0.values d.receiver d.name b.values

  abbrev k3 : ℕ
  k3 = row_for s.each p0.macros d.receiver d.name b.macros

  values_free : c2.free ≡ drop k2 c1.free
  values_free = rw values_as_before at values.free

  macros_free : c3.free ≡ drop k3 c2.free
  macros_free = rw macros_as_before at macros.free

  values_left : length c1.free ≡ length c2.free + k2
  values_left = rw values_as_before at values.left

  macros_left : length c2.free ≡ length c3.free + k3
  macros_left = rw macros_as_before at macros.left

  all_entries : c3.entries ≡ come s macro_space (come s value_space (come s type_space c0.entries d.receiver d.name b.types) d.receiver d.name b.values) d.receiver d.name b.macros
  all_entries =
      macros.entries
      ∙ ap (λ es. come s macro_space es d.receiver d.name b.macros) (values.entries ∙ ap (λ es. come s value_space es d.receiver d.name b.values) types.entries)

  all_free : c3.free ≡ drop (k1 + k2 + k3) c0.free
  all_free =
      macros_free
      ∙ ap (drop k3) (values_free ∙ ap (drop k2) types.free ∙ drop-drop k2 k1 c0.free)
      ∙ drop-drop k3 (k1 + k2) c0.free

  all_left : length c0.free ≡ length c3.free + (k1 + k2 + k3)
  all_left = let l : length c0.free ≡ length c1.free + k1 = types.left in let m = values_left in let n = macros_left in omega arith

  pub all_stored : Stores s c0 d true c3
  all_stored = record {
    entries = rw is at all_entries;
    free = rw is at all_free;
    left = rw is at all_left;
    all = macros.all ∙ values.all ∙ types.all;
  }
