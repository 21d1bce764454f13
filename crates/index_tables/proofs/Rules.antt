-- Tables pass their tests exactly when they keep the rules.
use Rattle.std.proofs.Common.{◌≡◌, ◌<◌, ℕ, zero, suc, Bool, true, false, not, ◌&&◌, ◌↔◌, ◌⊎◌, List, [], ◌∷◌, ◌++◌, length, is_some, slice_get, Some, Decides, if◌then◌else◌, sym, ap, refl, subst, ◌∙◌, inl, inr, arith}
use Rattle.std.proofs.lemmas.Bool.{and_parts, and_from, false≢true, both_ways, not-true, not_from_false, false_from_ne_true, cases_order}
use Rattle.std.proofs.lemmas.Bool.Decides.{Decides-and, Decides-ltb}
use Rattle.std.proofs.lemmas.Option.{none-some, same_Some}
use Rattle.hir_def.specs.declared.MacroId.{MacroId}
use Rattle.hir_def.specs.declared.ModuleId.{ModuleId}
use Rattle.nameres.specs.Shapes.{Rules}
use Rattle.nameres.specs.Rows.{tree_of, row_number}
use Rattle.item_scope.specs.IndexData.{map_in}
use Rattle.item_scope.specs.declared.index_data.DefMapId.{DefMapId}
use Rattle.item_scope.specs.declared.index_data.ExternPrelude.{ExternPrelude}
use Rattle.item_scope.specs.declared.index_data.MacroUse.{MacroUse}
use Rattle.item_scope.specs.declared.index_data.EnumVariant.{EnumVariant}
use Rattle.item_scope.specs.contracts.index_data.DefMapIdPartialEq.TheImpl.{eq-value as same_map}
use Rattle.item_scope.specs.contracts.index_data.DefMapIdLawfulEq.TheImpl.Laws.{eq_is_identity-law as map_law}
use Rattle.keyed.specs.declared.row.Row.{Row}
use Rattle.keyed.specs.Entries.{find}
use Rattle.index_tables.specs.contracts.keys.CrateNamePartialEq.TheImpl.{eq-value as same_crate_name}
use Rattle.index_tables.specs.contracts.keys.MapNamePartialEq.TheImpl.{eq-value as same_map_name}
use Rattle.index_tables.specs.contracts.keys.ModuleNamePartialEq.TheImpl.{eq-value as same_module_name}
use Rattle.index_tables.specs.contracts.keys.EnumNamePartialEq.TheImpl.{eq-value as same_enum_name}
use Rattle.index_tables.specs.contracts.keys.CrateNameLawfulEq.TheImpl.Laws.{eq_is_identity-law as crate_name_law}
use Rattle.index_tables.specs.contracts.keys.MapNameLawfulEq.TheImpl.Laws.{eq_is_identity-law as map_name_law}
use Rattle.index_tables.specs.contracts.keys.ModuleNameLawfulEq.TheImpl.Laws.{eq_is_identity-law as module_name_law}
use Rattle.index_tables.specs.contracts.keys.EnumNameLawfulEq.TheImpl.Laws.{eq_is_identity-law as enum_name_law}
use Rattle.index_tables.specs.declared.keys.CrateName.{CrateName}
use Rattle.index_tables.specs.declared.keys.MapName.{MapName}
use Rattle.index_tables.specs.declared.keys.ModuleName.{ModuleName}
use Rattle.index_tables.specs.declared.keys.EnumName.{EnumName}
use Rattle.index_tables.specs.IndexRows.{IndexRows, counts_of, data_from}
use Rattle.index_tables.specs.Numbers.{extern_prelude_in, macro_use_in, prelude_in, legacy_in, variant_in}
use Rattle.index_tables.specs.RowTests.{fitting, apart, RowsPass}
use Rattle.index_tables.specs.RowRules.{GoodRows, ExternPreludeExists, MacroUseExists, PreludeExists, LegacyExists, VariantExists}
use Rattle.index_tables.specs.Loading.{PassesTests, GoodTables}

-- a test that all rows pass is passed by each
module _ {K V : Type 0} (exist : K → V → Bool) where
  each_exists : (rows : List (Row K V)) → fitting exist rows ≡ true → (i : ℕ) (r : Row K V) → slice_get rows i ≡ Some r → exist r.key r.value ≡ true
  each_exists [] all i r is = absurd (none-some r is)
  each_exists (x ∷ rows) all zero r is =
      let e : x ≡ r = same_Some x r is in
      subst (λ (q : Row K V). exist q.key q.value ≡ true) e (and_parts (exist x.key x.value) _ all).0
  each_exists (x ∷ rows) all (suc i) r is = each_exists rows (and_parts (exist x.key x.value) _ all).1 i r is

  all_exist : (rows : List (Row K V)) → ((i : ℕ) (r : Row K V) → slice_get rows i ≡ Some r → exist r.key r.value ≡ true) → fitting exist rows ≡ true
  all_exist [] each = refl
  all_exist (x ∷ rows) each = and_from (exist x.key x.value) _ (each 0 x refl) (all_exist rows (λ i r is. each (suc i) r is))

-- rows have no key of an earlier one exactly if no key has two
module _ {K V : Type 0} (eq : K → K → Bool) (law : (a b : K) → (eq a b ≡ true) ↔ (a ≡ b)) where
  found_still : (rows : List (Row K V)) (r : Row K V) (key : K) → is_some (find eq rows key) ≡ true → is_some (find eq (rows ++ r ∷ []) key) ≡ true
  found_still [] r key e = absurd (false≢true e)
  found_still (x ∷ rows) r key e =
      let P : Bool → Type 0 = λ b. is_some (if b then Some x.value else find eq rows key) ≡ true → is_some (if b then Some x.value else find eq (rows ++ r ∷ []) key) ≡ true in
      elim (eq x.key key) as P [ true ↦ λ f. refl | false ↦ λ f. found_still rows r key f ] e

  found_last : (rows : List (Row K V)) (r : Row K V) → is_some (find eq (rows ++ r ∷ []) r.key) ≡ true
  found_last [] r = let e : eq r.key r.key ≡ true = (law r.key r.key).1 refl in rw e refl
  found_last (x ∷ rows) r = elim (eq x.key r.key) as (λ b. is_some (if b then Some x.value else find eq (rows ++ r ∷ []) r.key) ≡ true) [ true ↦ refl | false ↦ found_last rows r ]

  not_found_still : (rows : List (Row K V)) (r : Row K V) (key : K) → is_some (find eq rows key) ≡ false → eq r.key key ≡ false → is_some (find eq (rows ++ r ∷ []) key) ≡ false
  not_found_still [] r key e other = rw other refl
  not_found_still (x ∷ rows) r key e other =
      let P : Bool → Type 0 = λ b. is_some (if b then Some x.value else find eq rows key) ≡ false → is_some (if b then Some x.value else find eq (rows ++ r ∷ []) key) ≡ false in
      elim (eq x.key key) as P [ true ↦ λ f. f | false ↦ λ f. not_found_still rows r key f other ] e

  none_of_earlier : (earlier rows : List (Row K V)) (key : K) → apart eq earlier rows ≡ true → is_some (find eq earlier key) ≡ true → (j : ℕ) (s : Row K V) → slice_get rows j ≡ Some s → s.key ≡ key → ⊥
  none_of_earlier earlier [] key all found j s is same = none-some s is
  none_of_earlier earlier (x ∷ rows) key all found zero s is same =
      let p = and_parts (not (is_some (find eq earlier x.key))) _ all in
      let e : x ≡ s = same_Some x s is in
      let k : x.key ≡ key = ap (λ (q : Row K V). q.key) e ∙ same in
      both_ways (is_some (find eq earlier x.key)) (not-true _ p.0) (subst (λ q. is_some (find eq earlier q) ≡ true) (sym k) found)
  none_of_earlier earlier (x ∷ rows) key all found (suc j) s is same =
      let p = and_parts (not (is_some (find eq earlier x.key))) _ all in
      none_of_earlier (earlier ++ x ∷ []) rows key p.1 (found_still earlier x key found) j s is same

  later_differs : (earlier rows : List (Row K V)) → apart eq earlier rows ≡ true → (i j : ℕ) (r s : Row K V) → slice_get rows i ≡ Some r → slice_get rows j ≡ Some s → r.key ≡ s.key → i < j → ⊥
  later_differs earlier [] all i j r s is there same l = none-some r is
  later_differs earlier (x ∷ rows) all i zero r s is there same l = omega arith
  later_differs earlier (x ∷ rows) all zero (suc j) r s is there same l =
      let p = and_parts (not (is_some (find eq earlier x.key))) _ all in
      let e : r ≡ x = sym (same_Some x r is) in
      let k : s.key ≡ x.key = sym same ∙ ap (λ (q : Row K V). q.key) e in
      none_of_earlier (earlier ++ x ∷ []) rows x.key p.1 (found_last earlier x) j s there k
  later_differs earlier (x ∷ rows) all (suc i) (suc j) r s is there same l =
      let p = and_parts (not (is_some (find eq earlier x.key))) _ all in
      later_differs (earlier ++ x ∷ []) rows p.1 i j r s is there same (omega arith)

  one_of_a_key : (rows : List (Row K V)) → apart eq [] rows ≡ true → (i j : ℕ) (r s : Row K V) → slice_get rows i ≡ Some r → slice_get rows j ≡ Some s → r.key ≡ s.key → i ≡ j
  one_of_a_key rows all i j r s is there same = by (cases_order i j)
    where
      by : (i ≡ j) ⊎ ((i < j) ⊎ (j < i)) → i ≡ j
      by (inl e) = e
      by (inr (inl l)) = absurd (later_differs [] rows all i j r s is there same l)
      by (inr (inr l)) = absurd (later_differs [] rows all j i s r there is (sym same) l)

  all_apart : (earlier rows : List (Row K V)) → ((j : ℕ) (s : Row K V) → slice_get rows j ≡ Some s → is_some (find eq earlier s.key) ≡ false)
      → ((i j : ℕ) (r s : Row K V) → slice_get rows i ≡ Some r → slice_get rows j ≡ Some s → r.key ≡ s.key → i ≡ j) → apart eq earlier rows ≡ true
  all_apart earlier [] new one = refl
  all_apart earlier (x ∷ rows) new one =
      and_from (not (is_some (find eq earlier x.key))) _ (not_from_false (is_some (find eq earlier x.key)) (new 0 x refl))
      (all_apart (earlier ++ x ∷ []) rows (λ j s there. not_found_still earlier x s.key (new (suc j) s there) (false_from_ne_true (eq x.key s.key) (differs j s there))) below)
    where
      differs : (j : ℕ) (s : Row K V) → slice_get rows j ≡ Some s → eq x.key s.key ≡ true → ⊥
      differs j s there e = let n : 0 ≡ suc j = one 0 (suc j) x s refl there ((law x.key s.key).0 e) in omega arith

      below : (i j : ℕ) (r s : Row K V) → slice_get rows i ≡ Some r → slice_get rows j ≡ Some s → r.key ≡ s.key → i ≡ j
      below i j r s is there same = let n : suc i ≡ suc j = one (suc i) (suc j) r s is there same in omega arith

-- of a table whose keys' equality is identity, and whose test of numbers tells that they exist
module _ {K V : Type 0} (eq : K → K → Bool) (law : (a b : K) → (eq a b ≡ true) ↔ (a ≡ b)) (exist : K → V → Bool) (Exists : K → V → Type 0) (means : (k : K) (v : V) → Decides (exist k v) (Exists k v)) (rows : List (Row K V)) where
  keep : RowsPass eq exist rows → GoodRows Exists rows
  keep p = record {
    exist = λ i r is. (means r.key r.value).0 (each_exists exist rows p.numbers i r is);
    keys = λ i j r s is there same. one_of_a_key eq law rows p.keys i j r s is there same;
    few = p.few;
  }

  pass : GoodRows Exists rows → RowsPass eq exist rows
  pass g = record {
    numbers = all_exist exist rows (λ i r is. (means r.key r.value).1 (g.exist i r is));
    keys = all_apart eq law [] rows (λ j s there. refl) g.keys;
    few = g.few;
  }

three : {P Q R : Type 0} (x y z : Bool) → Decides x P → Decides y Q → Decides z R → Decides (x && (y && z)) (P × Q × R)
three x y z a b c = (
  λ e. let p = and_parts x (y && z) e in let q = and_parts y z p.1 in (a.0 p.0, b.0 q.0, c.0 q.1),
  λ t. and_from x (y && z) (a.1 t.0) (and_from y z (b.1 t.1) (c.1 t.2)),
)

told : (b : Bool) → Decides b (b ≡ true)
told b = (λ e. e, λ e. e)

-- the tests of the numbers of an index's rows tell that they exist
module _ (r : IndexRows) where
  extern_prelude_means : (k : CrateName) (e : ExternPrelude) → Decides (extern_prelude_in (counts_of r) k e) (ExternPreludeExists (data_from r) k e)
  extern_prelude_means k e = three _ _ _ (Decides-ltb k.krate.0 (length r.tree.crates)) (Decides-ltb k.name.0 r.names) (Decides-ltb e.«module».0 (length r.tree.modules))

  macro_use_means : (k : MapName) (u : MacroUse) → Decides (macro_use_in (counts_of r) k u) (MacroUseExists (data_from r) k u)
  macro_use_means k u = three _ _ _ (told (map_in (data_from r) k.map)) (Decides-ltb k.name.0 r.names) (Decides-ltb u.def.0 r.macros)

  prelude_means : (m : DefMapId) (p : ModuleId) → Decides (prelude_in (counts_of r) m p) (PreludeExists (data_from r) m p)
  prelude_means m p = Decides-and _ _ (told (map_in (data_from r) m)) (Decides-ltb p.0 (length r.tree.modules))

  legacy_means : (k : ModuleName) (d : MacroId) → Decides (legacy_in (counts_of r) k d) (LegacyExists (data_from r) k d)
  legacy_means k d = three _ _ _ (Decides-ltb k.at.0 (length r.tree.modules)) (Decides-ltb k.name.0 r.names) (Decides-ltb d.0 r.macros)

  variant_means : (k : EnumName) (x : EnumVariant) → Decides (variant_in (counts_of r) k x) (VariantExists (data_from r) k x)
  variant_means k x = Decides-and _ _ (Decides-ltb k.of.0 r.enums) (Decides-ltb k.name.0 r.names)

-- tables that pass their tests keep the rules
pub rules_kept : (r : IndexRows) → Rules (tree_of r.tree) row_number → PassesTests r → GoodTables r
rules_kept r tree p = record {
  tree = tree;
  few_names = p.few_names;
  extern_prelude = keep same_crate_name.it crate_name_law (extern_prelude_in (counts_of r)) (ExternPreludeExists (data_from r)) (extern_prelude_means r) r.extern_prelude p.extern_prelude;
  macro_use = keep same_map_name.it map_name_law (macro_use_in (counts_of r)) (MacroUseExists (data_from r)) (macro_use_means r) r.macro_use p.macro_use;
  preludes = keep same_map.it map_law (prelude_in (counts_of r)) (PreludeExists (data_from r)) (prelude_means r) r.preludes p.preludes;
  legacy = keep same_module_name.it module_name_law (legacy_in (counts_of r)) (LegacyExists (data_from r)) (legacy_means r) r.legacy p.legacy;
  variants = keep same_enum_name.it enum_name_law (variant_in (counts_of r)) (VariantExists (data_from r)) (variant_means r) r.variants p.variants;
  styles = p.styles;
}

-- and those that keep the rules pass them
pub tests_pass : (r : IndexRows) → GoodTables r → PassesTests r
tests_pass r g = record {
  few_names = g.few_names;
  extern_prelude = pass same_crate_name.it crate_name_law (extern_prelude_in (counts_of r)) (ExternPreludeExists (data_from r)) (extern_prelude_means r) r.extern_prelude g.extern_prelude;
  macro_use = pass same_map_name.it map_name_law (macro_use_in (counts_of r)) (MacroUseExists (data_from r)) (macro_use_means r) r.macro_use g.macro_use;
  preludes = pass same_map.it map_law (prelude_in (counts_of r)) (PreludeExists (data_from r)) (prelude_means r) r.preludes g.preludes;
  legacy = pass same_module_name.it module_name_law (legacy_in (counts_of r)) (LegacyExists (data_from r)) (legacy_means r) r.legacy g.legacy;
  variants = pass same_enum_name.it enum_name_law (variant_in (counts_of r)) (VariantExists (data_from r)) (variant_means r) r.variants g.variants;
  styles = g.styles;
}
