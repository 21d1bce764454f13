-- Tests that all pass, in the words of the rule, and what rows that pass them tell: numbers that exist.
use Rattle.std.proofs.Common.{◌≡◌, ◌<◌, ◌≤◌, ℕ, ◌+◌, Bool, true, false, not, ◌&&◌, List, [], ◌∷◌, ◌++◌, length, is_some, Some, None, ltb, sym, refl, subst, if◌then◌else◌, arith}
use Rattle.std.proofs.lemmas.Bool.{and_parts, false≢true, ltb-true}
use Rattle.std.proofs.lemmas.List.{get_or_past, length-append}
use Rattle.std.specs.declared.hash.Hasher as hasher
use Rattle.std.specs.declared.hash.BuildHasher as builder
use Rattle.item_scope.specs.IndexData.{SoundData, no_styles}
use Rattle.item_scope.specs.declared.index_data.DefMapId.{DefMapId}
use Rattle.item_scope.specs.contracts.index_data.DefMapIdPartialEq.TheImpl.{eq-value as same_map}
use Rattle.item_scope.specs.contracts.index_data.DefMapIdLawfulEq.TheImpl.Laws.{eq_is_identity-law as map_law}
use Rattle.keyed.specs.declared.row.Row.{Row}
use Rattle.keyed.specs.Entries.{find, most_rows}
use Rattle.index_tables.specs.contracts.keys.CrateNamePartialEq.TheImpl.{eq-value as same_crate_name}
use Rattle.index_tables.specs.contracts.keys.MapNamePartialEq.TheImpl.{eq-value as same_map_name}
use Rattle.index_tables.specs.contracts.keys.ModuleNamePartialEq.TheImpl.{eq-value as same_module_name}
use Rattle.index_tables.specs.contracts.keys.EnumNamePartialEq.TheImpl.{eq-value as same_enum_name}
use Rattle.index_tables.specs.contracts.keys.CrateNameLawfulEq.TheImpl.Laws.{eq_is_identity-law as crate_name_law}
use Rattle.index_tables.specs.contracts.keys.MapNameLawfulEq.TheImpl.Laws.{eq_is_identity-law as map_name_law}
use Rattle.index_tables.specs.contracts.keys.ModuleNameLawfulEq.TheImpl.Laws.{eq_is_identity-law as module_name_law}
use Rattle.index_tables.specs.contracts.keys.EnumNameLawfulEq.TheImpl.Laws.{eq_is_identity-law as enum_name_law}
use Rattle.index_tables.specs.declared.keys.CrateName.{CrateName}
use Rattle.index_tables.specs.declared.keys.MapName.{MapName}
use Rattle.index_tables.specs.declared.keys.ModuleName.{ModuleName}
use Rattle.index_tables.specs.declared.keys.EnumName.{EnumName}
use Rattle.index_tables.specs.declared.loaded_tables.LoadedTables.{LoadedTables}
use Rattle.index_tables.specs.RowTests.{row_tests, first_bad, fitting, apart, RowsPass}
use Rattle.index_tables.specs.Numbers.{extern_prelude_in, macro_use_in, prelude_in, legacy_in, variant_in}
use Rattle.index_tables.specs.IndexRows.{IndexRows, counts_of, data_from}
use Rattle.index_tables.specs.Loading.{PassesTests}
use Rattle.index_tables.specs.LoadedTables.{data_of, rows_in}

and_intro : (a b : Bool) → a ≡ true → b ≡ true → (a && b) ≡ true
and_intro true b e f = f
and_intro false b e f = absurd (false≢true e)

passed : (good : Bool) (tests : List Bool) (n : ℕ) → first_bad (good ∷ tests) n ≡ None → (good ≡ true) × (first_bad tests (n + 1) ≡ None)
passed true tests n e = (refl, e)
passed false tests n e = absurd (cc)

module _ {K V : Type 0} (eq : K → K → Bool) (exist : K → V → Bool) (usable : ℕ) where
  parts : (earlier rows : List (Row K V)) (n : ℕ) → first_bad (row_tests eq exist usable earlier rows) n ≡ None → (fitting exist rows ≡ true) × (apart eq earlier rows ≡ true)
  parts earlier [] n e = (refl, refl)
  parts earlier (r ∷ rows) n e =
      let p = passed (ltb (length earlier) usable && (exist r.key r.value && not (is_some (find eq earlier r.key)))) (row_tests eq exist usable (earlier ++ r ∷ []) rows) n e in
      let a = and_parts (ltb (length earlier) usable) _ p.0 in
      let b = and_parts (exist r.key r.value) _ a.1 in
      let rest = parts (earlier ++ r ∷ []) rows (n + 1) p.1 in
      (and_intro _ _ b.0 rest.0, and_intro _ _ b.1 rest.1)

  few_rows : (earlier rows : List (Row K V)) (n : ℕ) → length earlier ≤ usable → first_bad (row_tests eq exist usable earlier rows) n ≡ None → length earlier + length rows ≤ usable
  few_rows earlier [] n few e = omega (arith, few)
  few_rows earlier (r ∷ rows) n few e =
      let p = passed (ltb (length earlier) usable && (exist r.key r.value && not (is_some (find eq earlier r.key)))) (row_tests eq exist usable (earlier ++ r ∷ []) rows) n e in
      let room : length earlier < usable = ltb-true _ _ (and_parts (ltb (length earlier) usable) _ p.0).0 in
      let one : length (earlier ++ r ∷ []) ≡ length earlier + 1 = length-append earlier (r ∷ []) in
      let rest = few_rows (earlier ++ r ∷ []) rows (n + 1) (omega (arith, room, one)) p.1 in
      omega (arith, rest, one)

pub good_rows : {K V : Type 0} (eq : K → K → Bool) (exist : K → V → Bool) (rows taken : List (Row K V)) (n : ℕ) → (first_bad (row_tests eq exist most_rows [] rows) n ≡ None) × (taken ≡ rows) → RowsPass eq exist taken
good_rows eq exist rows taken n h =
    let p = parts eq exist most_rows [] rows n h.0 in
    let within = few_rows eq exist most_rows [] rows n (omega arith) h.0 in
    let few : length rows ≤ most_rows = omega (arith, within) in
    let g : RowsPass eq exist rows = record { numbers = p.0; keys = p.1; few = few } in
    subst (RowsPass eq exist) (sym h.1) g

-- what is found of a key passes the test that all rows pass
module _ {K V : Type 0} (eq : K → K → Bool) (exact : (a b : K) → eq a b ≡ true → a ≡ b) (exist : K → V → Bool) where
  pub found_exist : (rows : List (Row K V)) (key : K) (value : V) → fitting exist rows ≡ true → find eq rows key ≡ Some value → exist key value ≡ true
  found_exist [] key value all is = absurd (cc)
  found_exist (r ∷ rows) key value all is =
      let p = and_parts (exist r.key r.value) _ all in
      let P : Bool → Type 0 = λ b. eq r.key key ≡ b → (if b then Some r.value else find eq rows key) ≡ Some value → exist key value ≡ true in
      elim (eq r.key key) as P [
        | true ↦ λ e f. let k : r.key ≡ key = exact r.key key e in let v : r.value ≡ value = cc in rw (← k, ← v) p.0
        | false ↦ λ e f. found_exist rows key value p.1 f
      ] refl is

exact_crate_name : (a b : CrateName) → same_crate_name.it a b ≡ true → a ≡ b
exact_crate_name a b e = (crate_name_law a b).0 e

exact_map_name : (a b : MapName) → same_map_name.it a b ≡ true → a ≡ b
exact_map_name a b e = (map_name_law a b).0 e

exact_map : (a b : DefMapId) → same_map.it a b ≡ true → a ≡ b
exact_map a b e = (map_law a b).0 e

exact_module_name : (a b : ModuleName) → same_module_name.it a b ≡ true → a ≡ b
exact_module_name a b e = (module_name_law a b).0 e

exact_enum_name : (a b : EnumName) → same_enum_name.it a b ≡ true → a ≡ b
exact_enum_name a b e = (enum_name_law a b).0 e

-- rows that pass their tests tell only numbers that exist
pub sound_data : (r : IndexRows) → PassesTests r → SoundData (data_from r)
sound_data r good = record {
  few_names = good.few_names;
  extern_prelude = λ c n e is.
      let p = and_parts _ _ (found_exist same_crate_name.it exact_crate_name (extern_prelude_in (counts_of r)) r.extern_prelude (record { krate = c; name = n }) e good.extern_prelude.numbers is) in
      let q = and_parts _ _ p.1 in
      (ltb-true _ _ p.0, ltb-true _ _ q.0, ltb-true _ _ q.1);
  macro_use = λ m n u is.
      let p = and_parts _ _ (found_exist same_map_name.it exact_map_name (macro_use_in (counts_of r)) r.macro_use (record { map = m; name = n }) u good.macro_use.numbers is) in
      let q = and_parts _ _ p.1 in
      (p.0, ltb-true _ _ q.0, ltb-true _ _ q.1);
  prelude = λ m p is.
      let q = and_parts _ _ (found_exist same_map.it exact_map (prelude_in (counts_of r)) r.preludes m p good.preludes.numbers is) in
      (q.0, ltb-true _ _ q.1);
  legacy = λ m n d is.
      let p = and_parts _ _ (found_exist same_module_name.it exact_module_name (legacy_in (counts_of r)) r.legacy (record { at = m; name = n }) d good.legacy.numbers is) in
      let q = and_parts _ _ p.1 in
      (ltb-true _ _ p.0, ltb-true _ _ q.0, ltb-true _ _ q.1);
  variant = λ e n x is.
      let p = and_parts _ _ (found_exist same_enum_name.it exact_enum_name (variant_in (counts_of r)) r.variants (record { of = e; name = n }) x good.variants.numbers is) in
      (ltb-true _ _ p.0, ltb-true _ _ p.1);
  styles = λ m l. get_or_past r.styles m.0 no_styles (omega (arith, good.styles));
}

-- whatever tables an index holds, every number that they tell exists
pub sound_tables : {S H : Type 0} {build : builder.Ghosts S H} {hash : hasher.Ghosts H} (t : LoadedTables S H build hash) → SoundData (data_of t)
sound_tables t = sound_data (rows_in t) t.good
