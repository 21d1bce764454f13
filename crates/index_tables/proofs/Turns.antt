-- One table after the other.
use Rattle.std.proofs.Common.{◌≡◌, ℕ, zero, suc, ◌+◌, Bool, true, false, List, [], ◌∷◌, ◌++◌, length, min, Some, None, Option, eqb, if◌then◌else◌, sym, refl, ap, inl, inr, ◌∙◌, subst, add-zero, Ok, Err, arith}
use Rattle.std.proofs.lemmas.Bool.{cases_eq, eq-eqb, ne_eqb}
use Rattle.std.specs.Option.{option_or}
use Rattle.std.specs.Prelude.{nat_le}
use Rattle.keyed.specs.declared.row.Row.{Row}
use Rattle.hir_def.specs.declared.fault.Failure.{Failure}
use Rattle.hir_def.specs.declared.fault.Failure.TheVariants.{Memory, Refused}
use Rattle.hir_def.specs.declared.fault.Fault.{Fault}
use Rattle.hir_def.specs.declared.fault.IndexFault.{IndexFault}
use Rattle.hir_def.specs.Faults.{IfRefused}
use Rattle.nameres.specs.Rows.{Loads}
use Rattle.item_scope.specs.contracts.index_data.DefMapIdPartialEq.TheImpl.{eq-value as same_map}
use Rattle.index_tables.specs.contracts.keys.CrateNamePartialEq.TheImpl.{eq-value as same_crate_name}
use Rattle.index_tables.specs.contracts.keys.MapNamePartialEq.TheImpl.{eq-value as same_map_name}
use Rattle.index_tables.specs.contracts.keys.ModuleNamePartialEq.TheImpl.{eq-value as same_module_name}
use Rattle.index_tables.specs.contracts.keys.EnumNamePartialEq.TheImpl.{eq-value as same_enum_name}
use Rattle.keyed.specs.Entries.{most_rows}
use Rattle.index_tables.specs.declared.numbers.Counts.{Counts}
use Rattle.index_tables.specs.Numbers.{extern_prelude_in, macro_use_in, prelude_in, legacy_in, variant_in}
use Rattle.index_tables.specs.IndexRows.{IndexRows, counts_of}
use Rattle.index_tables.specs.Loading.{table_tests, index_tests, LoadsIndex}
use Rattle.index_tables.specs.RowTests.{row_tests, as_many, first_bad, IsBadRow}

pub first_bad-append : (xs ys : List Bool) (n : ℕ) → first_bad (xs ++ ys) n ≡ option_or (first_bad xs n) (first_bad ys (n + length xs))
first_bad-append [] ys n = ap (first_bad ys) (sym (add-zero n))
first_bad-append (true ∷ xs) ys n = first_bad-append xs ys (n + 1) ∙ ap (λ k. option_or (first_bad xs (n + 1)) (first_bad ys k)) (let e : n + 1 + length xs ≡ n + suc (length xs) = omega arith in e)
first_bad-append (false ∷ xs) ys n = refl

pub length-row_tests : {K V : Type 0} (eq : K → K → Bool) (exist : K → V → Bool) (usable : ℕ) (earlier rows : List (Row K V)) → length (row_tests eq exist usable earlier rows) ≡ length rows
length-row_tests eq exist usable earlier [] = refl
length-row_tests eq exist usable earlier (r ∷ rows) = ap suc (length-row_tests eq exist usable (earlier ++ r ∷ []) rows)

pub all_there : (n k : ℕ) → first_bad (as_many n n) k ≡ None
all_there zero k = refl
all_there (suc n) k = all_there n (k + 1)

one_bad : (n wanted k : ℕ) → (n ≡ wanted → ⊥) → first_bad (as_many n wanted) k ≡ Some (k + min n wanted)
one_bad zero zero k d = absurd (d refl)
one_bad zero (suc w) k d = ap Some (let e : k ≡ k + min 0 (suc w) = omega arith in e)
one_bad (suc n) zero k d = ap Some (let e : k ≡ k + min (suc n) 0 = omega arith in e)
one_bad (suc n) (suc w) k d =
    one_bad n w (k + 1) (λ e. d (ap suc e)) ∙ ap Some (let e : k + 1 + min n w ≡ k + min (suc n) (suc w) = omega arith in e)

pub first_bad-as_many : (n wanted k : ℕ) → first_bad (as_many n wanted) k ≡ (if eqb n wanted then None else Some (k + min n wanted))
first_bad-as_many n wanted k =
    elim (cases_eq n wanted) [
      | inl e ↦ ap (λ w. first_bad (as_many n w) k) (sym e) ∙ all_there n k ∙ sym (ap (λ b. if b then None else Some (k + min n wanted)) (eq-eqb n wanted e))
      | inr d ↦ one_bad n wanted k d ∙ sym (ap (λ b. if b then None else Some (k + min n wanted)) (ne_eqb n wanted d))
    ]

-- some tests pass, and those that follow are next
pub next_tests : (xs ys : List Bool) (n k : ℕ) → k ≡ length xs → first_bad xs n ≡ None → first_bad (xs ++ ys) n ≡ first_bad ys (n + k)
next_tests xs ys n k is none = first_bad-append xs ys n ∙ ap (λ o. option_or o (first_bad ys (n + length xs))) none ∙ ap (λ m. first_bad ys (n + m)) (sym is)

-- some tests do not pass
pub stops : (xs ys : List Bool) (n p : ℕ) → first_bad xs n ≡ Some p → first_bad (xs ++ ys) n ≡ Some p
stops xs ys n p some = first_bad-append xs ys n ∙ ap (λ o. option_or o (first_bad ys (n + length xs))) some

-- the first bad row of some tests is the one that a load tells
pub refuses : (r : IndexRows) (e : Failure Fault) (o : Option ℕ) → Loads r.tree (Ok tt) → ((p : ℕ) → o ≡ Some p → first_bad (index_tests r) 0 ≡ Some p) → IfRefused (λ f. IsBadRow f o) e → IfRefused (λ f. LoadsIndex r (Err f)) e
refuses r (Memory m) o tree at bad = tt
refuses r (Refused f) o tree at (p, is, some) =
    let P : Fault → Type 0 = λ g. LoadsIndex r (Err g) in
    subst P (sym is) (tree, (p, refl, at p some))

-- of tests that others follow
pub refuses_next : (r : IndexRows) (e : Failure Fault) (xs ys : List Bool) (k : ℕ) → Loads r.tree (Ok tt) → first_bad (index_tests r) 0 ≡ first_bad (xs ++ ys) k → IfRefused (λ f. IsBadRow f (first_bad xs k)) e → IfRefused (λ f. LoadsIndex r (Err f)) e
refuses_next r e xs ys k tree at bad = refuses r e (first_bad xs k) tree (λ p some. at ∙ stops xs ys k p some) bad

pub few_of : (b : Bool) (u : Unit {0}) (e : IndexFault) → Ok u ≡ (if b then Ok tt else Err e) → b ≡ true
few_of true u e is = refl
few_of false u e is = absurd (cc)

pub as_many_is : (n wanted k : ℕ) → first_bad (as_many n wanted) k ≡ None → n ≡ wanted
as_many_is zero zero k e = refl
as_many_is zero (suc wanted) k e = absurd (cc)
as_many_is (suc n) zero k e = absurd (cc)
as_many_is (suc n) (suc wanted) k e = ap suc (as_many_is n wanted (k + 1) e)

-- the tests of the tables of an index, with its counts, once those before have passed
module _ (r : IndexRows) (n : Counts) (is : n ≡ counts_of r) (few : nat_le r.names 65536 ≡ true) where
  abbrev pub ones : List Bool
  ones = table_tests same_crate_name.it (extern_prelude_in n) r.extern_prelude

  abbrev pub twos : List Bool
  twos = table_tests same_map_name.it (macro_use_in n) r.macro_use

  abbrev pub threes : List Bool
  threes = table_tests same_map.it (prelude_in n) r.preludes

  abbrev pub fours : List Bool
  fours = table_tests same_module_name.it (legacy_in n) r.legacy

  abbrev pub fives : List Bool
  fives = table_tests same_enum_name.it (variant_in n) r.variants

  abbrev pub sixes : List Bool
  sixes = as_many (length r.styles) r.macros

  pub at_one : first_bad (index_tests r) 0 ≡ first_bad (ones ++ (twos ++ (threes ++ (fours ++ (fives ++ sixes))))) 3
  at_one =
      ap (λ m. first_bad ((nat_le r.names 65536 ∷ true ∷ true ∷ [])
      ++ (table_tests same_crate_name.it (extern_prelude_in m) r.extern_prelude
      ++ (table_tests same_map_name.it (macro_use_in m) r.macro_use
      ++ (table_tests same_map.it (prelude_in m) r.preludes
      ++ (table_tests same_module_name.it (legacy_in m) r.legacy
      ++ (table_tests same_enum_name.it (variant_in m) r.variants ++ sixes)))))) 0) (sym is)
      ∙ ap (λ b. first_bad ((b ∷ true ∷ true ∷ []) ++ (ones ++ (twos ++ (threes ++ (fours ++ (fives ++ sixes)))))) 0) few

  module _ (first : first_bad ones 3 ≡ None) where
    pub at_two : first_bad (index_tests r) 0 ≡ first_bad (twos ++ (threes ++ (fours ++ (fives ++ sixes)))) (3 + length r.extern_prelude)
    at_two = at_one ∙ next_tests ones _ 3 (length r.extern_prelude) (sym (length-row_tests same_crate_name.it (extern_prelude_in n) most_rows [] r.extern_prelude)) first

    module _ (second : first_bad twos (3 + length r.extern_prelude) ≡ None) where
      pub at_three : first_bad (index_tests r) 0 ≡ first_bad (threes ++ (fours ++ (fives ++ sixes))) (3 + length r.extern_prelude + length r.macro_use)
      at_three = at_two ∙ next_tests twos _ _ (length r.macro_use) (sym (length-row_tests same_map_name.it (macro_use_in n) most_rows [] r.macro_use)) second

      module _ (third : first_bad threes (3 + length r.extern_prelude + length r.macro_use) ≡ None) where
        pub at_four : first_bad (index_tests r) 0 ≡ first_bad (fours ++ (fives ++ sixes)) (3 + length r.extern_prelude + length r.macro_use + length r.preludes)
        at_four = at_three ∙ next_tests threes _ _ (length r.preludes) (sym (length-row_tests same_map.it (prelude_in n) most_rows [] r.preludes)) third

        module _ (fourth : first_bad fours (3 + length r.extern_prelude + length r.macro_use + length r.preludes) ≡ None) where
          pub at_five : first_bad (index_tests r) 0 ≡ first_bad (fives ++ sixes) (3 + length r.extern_prelude + length r.macro_use + length r.preludes + length r.legacy)
          at_five = at_four ∙ next_tests fours _ _ (length r.legacy) (sym (length-row_tests same_module_name.it (legacy_in n) most_rows [] r.legacy)) fourth

          pub at_six : first_bad fives (3 + length r.extern_prelude + length r.macro_use + length r.preludes + length r.legacy) ≡ None
              → first_bad (index_tests r) 0 ≡ first_bad sixes (3 + length r.extern_prelude + length r.macro_use + length r.preludes + length r.legacy + length r.variants)
          at_six fifth = at_five ∙ next_tests fives _ _ (length r.variants) (sym (length-row_tests same_enum_name.it (variant_in n) most_rows [] r.variants)) fifth

-- what is told of tables in turn
pub ruleset turns = (first_bad-append, length-row_tests, first_bad-as_many)
