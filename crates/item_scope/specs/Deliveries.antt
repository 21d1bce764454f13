-- What a delivery does to what an index tells, and when it is refused.
use Rattle.std.specs.Prelude.{◌≡◌, ℕ, ◌+◌, ◌≤◌, Bool, true, false, if◌then◌else◌, ◌&&◌, ◌||◌, not, is_ok, Some, None, Ok, Err, Option, Result, ◌==◌, nat_lt, nat_le}
use Rattle.std.specs.Option.{option_or, option_map, option_map_or}
use Rattle.hir_def.specs.declared.ModuleId.{ModuleId}
use Rattle.hir_def.specs.declared.Name.{Name}
use Rattle.hir_def.specs.declared.Namespace.TheVariants as namespace
use Rattle.hir_def.specs.declared.fault.IndexFault.{IndexFault}
use Rattle.hir_def.specs.declared.fault.IndexFault.TheVariants.{NoModule, NoName, NothingFilled, Dangling, NoRows}
use Rattle.hir_def.specs.declared.import.ImportOrExternCrate.{ImportOrExternCrate}
use Rattle.hir_def.specs.Imports.{narrowed}
use Rattle.hir_def.specs.contracts.ModuleDefIdPartialEq.TheImpl.{eq-value as same_def}
use Rattle.hir_def.specs.contracts.MacroIdPartialEq.TheImpl.{eq-value as same_macro}
use Rattle.hir_def.specs.contracts.import.ImportOrExternCratePartialEq.TheImpl.{eq-value as same_wide}
use Rattle.hir_def.specs.contracts.import.ImportOrGlobPartialEq.TheImpl.{eq-value as same_narrow}
use Rattle.entries.specs.declared.per_ns.Item.{Item}
use Rattle.entries.specs.declared.per_ns.PerNs.{PerNs}
use Rattle.entries.specs.Entries.{is_nothing}
use Rattle.item_scope.specs.declared.delivery.Delivery.{Delivery}
use Rattle.item_scope.specs.Globs.{wide_glob, narrow_glob}
use Rattle.item_scope.specs.IndexData.{IndexData, def_in, macro_in, item_in}
use Rattle.item_scope.specs.Places.{Tests, tests, takes, stepped}
use Rattle.item_scope.specs.Views.{Types, Values, Macros, Places, View}

-- a delivery by its parts
abbrev pub delivery_of : ModuleId → Name → Option Types → Option Values → Option Macros → Option ImportOrExternCrate → Delivery
delivery_of m n t v x i = record { receiver = m; name = n; entries = record { types = t; values = v; macros = x }; import = i }

-- the tests of the steps in each namespace, by the equality that its defs and imports derive
abbrev pub type_tests : Tests Types
type_tests = tests same_def.it wide_glob same_wide.it

abbrev pub value_tests : Tests Values
value_tests = tests same_def.it narrow_glob same_narrow.it

abbrev pub macro_tests : Tests Macros
macro_tests = tests same_macro.it wide_glob same_wide.it

-- an entry under an import, whatever import it had
abbrev pub under_import : {D M : Type 0} → Option M → Item D M → Item D M
under_import i it = record { def = it.def; vis = it.vis; import = i }

-- the entries as they come to their places: under the delivery's import, of which values keep none by an extern crate
abbrev pub brought : Delivery → PerNs
brought d = record {
  types = option_map (under_import d.import) d.entries.types;
  values = option_map (under_import (narrowed d.import)) d.entries.values;
  macros = option_map (under_import d.import) d.entries.macros;
}

-- the places of a namespace when an entry, if there is one, has come to one of them
abbrev pub arrived : {T : Type 0} → Tests T → Places T → ModuleId → Name → Option T → Places T
arrived t f m n None = f
arrived t f m n (Some e) = λ a b. if a.0 == m.0 && b.0 == n.0 then (stepped t (f a b) e).place else f a b

-- whether the entry is stored there
abbrev pub changed : {T : Type 0} → Tests T → Places T → ModuleId → Name → Option T → Bool
changed t f m n None = false
changed t f m n (Some e) = takes t (f m n) e

-- a taken delivery changes its places by the four steps, and nothing else
abbrev pub delivered : View → Delivery → View
delivered v d = record {
  fixed = v.fixed;
  types = arrived type_tests v.types d.receiver d.name (brought d).types;
  values = arrived value_tests v.values d.receiver d.name (brought d).values;
  macros = arrived macro_tests v.macros d.receiver d.name (brought d).macros;
}

-- whether any namespace changed
abbrev pub any_changed : View → Delivery → Bool
any_changed v d =
    changed type_tests v.types d.receiver d.name (brought d).types
    || (changed value_tests v.values d.receiver d.name (brought d).values
    || changed macro_tests v.macros d.receiver d.name (brought d).macros)

abbrev pub count_of : {T : Type 0} → Option T → ℕ
count_of None = 0
count_of (Some e) = 1

-- how many namespaces a delivery fills
abbrev pub filled : Delivery → ℕ
filled d = count_of d.entries.types + count_of d.entries.values + count_of d.entries.macros

-- an entry, if there is one, names only what exists
abbrev pub entry_in : {D M : Type 0} → (IndexData → D → Bool) → IndexData → Option (Item D M) → Bool
entry_in def_in f e = option_map_or (item_in def_in f) e true

-- the first namespace whose entry names what does not exist
abbrev pub dangling : IndexData → PerNs → Option IndexFault
dangling f p =
    if not (entry_in def_in f p.types) then Some (Dangling namespace.Types)
    else if not (entry_in def_in f p.values) then Some (Dangling namespace.Values)
    else if not (entry_in macro_in f p.macros) then Some (Dangling namespace.Macros)
    else None

-- what is wrong with a delivery, however many rows are free
abbrev pub faulty : IndexData → Delivery → Option IndexFault
faulty f d =
    if not (nat_lt d.receiver.0 f.tree.modules) then Some NoModule
    else if not (nat_lt d.name.0 f.names) then Some NoName
    else if is_nothing d.entries then Some NothingFilled
    else dangling f d.entries

-- fewer rows are free than a delivery fills namespaces
abbrev pub short_of_rows : ℕ → Delivery → Option IndexFault
short_of_rows left d = if nat_le (filled d) left then None else Some (NoRows left)

-- why a delivery is refused, if it is
abbrev pub refused : View → ℕ → Delivery → Option IndexFault
refused v left d = option_or (faulty v.fixed d) (short_of_rows left d)

abbrev pub answer_of : Option IndexFault → Bool → Result Bool IndexFault
answer_of None changed = Ok changed
answer_of (Some fault) changed = Err fault

-- an index that tells v and has so many rows left answers a delivery so, and then tells v' and has left'
pub record Takes (v : View) (left : ℕ) (d : Delivery) (result : Result Bool IndexFault) (v' : View) (left' : ℕ) : Type 0 where
  pub answers : result ≡ answer_of (refused v left d) (any_changed v d)
  pub after : v' ≡ (if is_ok result then delivered v d else v)
  -- rows are used up by a taken delivery alone, no more than it fills namespaces
  pub falls : left' ≤ left
  pub spares : left ≤ left' + (if is_ok result then filled d else 0)
