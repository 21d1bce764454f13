-- A load accepts exactly the tables that keep the rules.
use Rattle.std.proofs.Common.{◌≡◌, ◌≤◌, ℕ, ◌+◌, Bool, true, not, ◌&&◌, List, [], ◌∷◌, ◌++◌, length, is_some, None, Ok, Err, ltb, sym, ap, refl, ◌∙◌, arith}
use Rattle.std.proofs.lemmas.Bool.{and_parts, and_from, true≢false, lt-ltb, le-leb}
use Rattle.std.proofs.lemmas.List.{length-append}
use Rattle.std.specs.Prelude.{nat_le}
use Rattle.hir_def.specs.declared.fault.Failure.{Failure}
use Rattle.hir_def.specs.declared.fault.Failure.TheVariants.{Memory, Refused}
use Rattle.hir_def.specs.declared.fault.Fault.{Fault}
use Rattle.hir_def.specs.declared.fault.Fault.TheVariants.{Text, Path, Tree, Index}
use Rattle.hir_def.specs.Faults.{IfRefused}
use Rattle.nameres.proofs.Accepted.{accepted}
use Rattle.keyed.specs.declared.row.Row.{Row}
use Rattle.keyed.specs.Entries.{find, most_rows}
use Rattle.index_tables.specs.IndexRows.{IndexRows, counts_of}
use Rattle.index_tables.specs.Loading.{index_tests, LoadsIndex, PassesTests, GoodTables}
use Rattle.index_tables.specs.RowTests.{row_tests, as_many, first_bad, fitting, apart, RowsPass}
use Rattle.index_tables.proofs.Rules.{rules_kept, tests_pass}
use Rattle.index_tables.proofs.Turns.{all_there, at_six}

module _ {K V : Type 0} (eq : K → K → Bool) (exist : K → V → Bool) (usable : ℕ) where
  all_pass : (earlier rows : List (Row K V)) (n : ℕ) → length earlier + length rows ≤ usable → fitting exist rows ≡ true → apart eq earlier rows ≡ true → first_bad (row_tests eq exist usable earlier rows) n ≡ None
  all_pass earlier [] n few fits keys = refl
  all_pass earlier (r ∷ rows) n few fits keys =
      let a = and_parts (exist r.key r.value) _ fits in
      let b = and_parts (not (is_some (find eq earlier r.key))) _ keys in
      let room : ltb (length earlier) usable ≡ true = lt-ltb _ _ (omega (arith, few)) in
      let good : (ltb (length earlier) usable && (exist r.key r.value && not (is_some (find eq earlier r.key)))) ≡ true = and_from _ _ room (and_from _ _ a.0 b.0) in
      let one : length (earlier ++ r ∷ []) ≡ length earlier + 1 = length-append earlier (r ∷ []) in
      ap (λ t. first_bad (t ∷ row_tests eq exist usable (earlier ++ r ∷ []) rows) n) good ∙ all_pass (earlier ++ r ∷ []) rows (n + 1) (omega (arith, few, one)) a.1 b.1

-- rows that pass the tests kind by kind pass them row by row
pass : {K V : Type 0} (eq : K → K → Bool) (exist : K → V → Bool) (rows : List (Row K V)) (n : ℕ) → RowsPass eq exist rows → first_bad (row_tests eq exist most_rows [] rows) n ≡ None
pass eq exist rows n g = all_pass eq exist most_rows [] rows n (omega (arith, g.few)) g.numbers g.keys

-- as many rows as are wanted
enough : (n wanted k : ℕ) → n ≡ wanted → first_bad (as_many n wanted) k ≡ None
enough n wanted k e = ap (λ m. first_bad (as_many m wanted) k) e ∙ all_there wanted k

none_bad : (r : IndexRows) → PassesTests r → first_bad (index_tests r) 0 ≡ None
none_bad r g =
    let few : nat_le r.names 65536 ≡ true = le-leb _ _ g.few_names in
    at_six r (counts_of r) refl few (pass _ _ r.extern_prelude _ g.extern_prelude) (pass _ _ r.macro_use _ g.macro_use) (pass _ _ r.preludes _ g.preludes) (pass _ _ r.legacy _ g.legacy) (pass _ _ r.variants _ g.variants)
    ∙ enough (length r.styles) r.macros _ g.styles

not_good : (r : IndexRows) (f : Fault) → LoadsIndex r (Err f) → GoodTables r → ⊥
not_good r (Tree f) l g = true≢false (sym ((accepted r.tree (Err f) l).1 g.tree))
not_good r (Index f) l g = let (p, is, some) = l.1 in let none = none_bad r (tests_pass r g) in absurd (cc)
not_good r (Text f) l g = l
not_good r (Path f) l g = l

-- tables that are taken keep the rules
pub taken : (r : IndexRows) → LoadsIndex r (Ok tt) → PassesTests r → GoodTables r
taken r l p = rules_kept r ((accepted r.tree (Ok tt) l.0).0 refl) p

-- and tables that are refused do not
pub denied : (r : IndexRows) (e : Failure Fault) → IfRefused (λ f. LoadsIndex r (Err f)) e → IfRefused (λ f. GoodTables r → ⊥) e
denied r (Memory e) l = tt
denied r (Refused f) l = not_good r f l
