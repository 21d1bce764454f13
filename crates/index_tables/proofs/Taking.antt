-- A table that comes in row by row: what is true when its first rows are taken in, and what the next row does.
use Rattle.std.proofs.Common.{◌≡◌, ℕ, suc, ◌+◌, ◌<◌, ◌≤◌, Bool, true, false, not, ◌&&◌, ◌↔◌, IsTrue, List, [], ◌∷◌, ◌++◌, length, take, drop, get_or, is_some, is_err, Some, None, Ok, Err, Result, sym, refl, ap, ◌∙◌, inl, inr, arith, get_or-take, length-take-le}
use Rattle.std.proofs.lemmas.Bool.{cases_lt, lt-ltb, le-ltb, false≢true}
use Rattle.std.proofs.lemmas.List.{take_more, length-take, length-drop, nil_from_length}
use Rattle.std.proofs.Math.Seq.{drop-cons, drop-length, take-length}
use Rattle.std.specs.Prelude.{nat_lt, OnOk}
use Rattle.keyed.specs.declared.row.Row.{Row}
use Rattle.keyed.specs.declared.table.NotTaken.{NotTaken}
use Rattle.keyed.specs.declared.table.NotTaken.TheVariants.{Present, Full}
use Rattle.keyed.specs.Entries.{find, next_is_present}
use Rattle.index_tables.specs.RowTests.{row_tests, first_bad}

-- what is promised of a call that was not refused
pub on_ok : {T E P : Type 0} (result : Result T E) → is_err result ≡ false → OnOk result P → P
on_ok (Ok x) e h = h
on_ok (Err f) e h = absurd (false≢true (sym e))

false_right : (a b : Bool) → (a && (b && false)) ≡ false
false_right true true = refl
false_right true false = refl
false_right false b = refl

module _ {K V : Type 0} (eq : K → K → Bool) (exist : K → V → Bool) (usable : ℕ) (rows : List (Row K V)) (from : ℕ) where
  abbrev tests : List Bool
  tests = row_tests eq exist usable [] rows

  -- the first rows are good and taken in
  pub record Taken (i : ℕ) (used left : List (Row K V)) : Type 0 where
    pub so_far : first_bad tests from ≡ first_bad (row_tests eq exist usable (take i rows) (drop i rows)) (from + i)
    pub entries : used ≡ take i rows
    pub free : left ≡ drop i (take usable rows)
    pub few : i ≤ usable

  module _ (i : ℕ) (used left : List (Row K V)) (r : Row K V) (t : Taken i used left) (l : i < length rows) (is : r ≡ get_or rows i r) where
    -- the test of the next row
    abbrev good : Bool
    good = nat_lt (length (take i rows)) usable && (exist r.key r.value && not (is_some (find eq (take i rows) r.key)))

    turn : first_bad tests from ≡ first_bad (good ∷ row_tests eq exist usable (take i rows ++ r ∷ []) (drop (suc i) rows)) (from + i)
    turn = t.so_far ∙ ap (λ rs. first_bad (row_tests eq exist usable (take i rows) rs) (from + i)) (drop-cons rows i r l ∙ ap (λ x. x ∷ drop (suc i) rows) (sym is))

    bad : good ≡ false → first_bad tests from ≡ Some (from + i)
    bad f = turn ∙ ap (λ b. first_bad (b ∷ row_tests eq exist usable (take i rows ++ r ∷ []) (drop (suc i) rows)) (from + i)) f

    next_left : i < usable → left ≡ r ∷ drop (suc i) (take usable rows)
    next_left m =
        let inside : i < length (take usable rows) = omega (arith, length-take usable rows) in
        t.free ∙ drop-cons (take usable rows) i r inside ∙ ap (λ x. x ∷ drop (suc i) (take usable rows)) (get_or-take usable rows i r m ∙ sym is)

    none_left : usable ≤ i → left ≡ []
    none_left m = t.free ∙ nil_from_length (drop i (take usable rows)) (omega (arith, length-drop i (take usable rows), length-take usable rows))

    past : usable ≤ i → good ≡ false
    past m =
        let here : length (take i rows) ≡ i = length-take-le i rows (omega arith) in
        let f : nat_lt (length (take i rows)) usable ≡ false = le-ltb (length (take i rows)) usable (omega arith) in
        rw f refl

    present_is : i < usable → next_is_present eq used left ≡ is_some (find eq (take i rows) r.key)
    present_is m = ap (next_is_present eq used) (next_left m) ∙ ap (λ es. is_some (find eq es r.key)) t.entries

    -- a row whose numbers do not exist
    pub unfit : exist r.key r.value ≡ false → first_bad tests from ≡ Some (from + i)
    unfit f = bad (elim (nat_lt (length (take i rows)) usable) as (λ b. (b && (exist r.key r.value && not (is_some (find eq (take i rows) r.key)))) ≡ false) [ true ↦ rw f refl | false ↦ refl ])

    -- a row that the table does not take
    pub refused : (result : Result (Unit {0}) NotTaken) → is_err result ≡ true → ((result ≡ Err Present) ↔ IsTrue (next_is_present eq used left)) → ((result ≡ Err Full) ↔ (left ≡ [])) → first_bad tests from ≡ Some (from + i)
    refused (Ok u) e present full = absurd (false≢true e)
    refused (Err Full) e present full =
        elim (cases_lt i usable) [
          | inl m ↦ let nothing : left ≡ [] = full.0 refl in let something = next_left m in absurd (cc)
          | inr m ↦ bad (past m)
        ]
    refused (Err Present) e present full =
        elim (cases_lt i usable) [
          | inl m ↦
              let there : is_some (find eq (take i rows) r.key) ≡ true = sym (present_is m) ∙ present.0 refl in
              bad (rw there (false_right (nat_lt (length (take i rows)) usable) (exist r.key r.value)))
          | inr m ↦ bad (past m)
        ]

    -- a row that it takes
    pub taken : (result : Result (Unit {0}) NotTaken) → is_err result ≡ false → ((result ≡ Err Present) ↔ IsTrue (next_is_present eq used left)) → ((result ≡ Err Full) ↔ (left ≡ [])) → exist r.key r.value ≡ true
        → (used' left' : List (Row K V)) → used' ≡ used ++ take 1 left → left' ≡ drop 1 left → Taken (i + 1) used' left'
    taken (Err f) e present full fits used' left' u v = absurd (false≢true (sym e))
    taken (Ok x) e present full fits used' left' u v =
        elim (cases_lt i usable) [
          | inl m ↦
              let absent : is_some (find eq (take i rows) r.key) ≡ false = sym (present_is m) ∙ not_present in
              let here : length (take i rows) ≡ i = length-take-le i rows (omega arith) in
              let room : nat_lt (length (take i rows)) usable ≡ true = lt-ltb (length (take i rows)) usable (omega arith) in
              let passes : good ≡ true = rw (room, fits, absent) refl in
              let more : take (i + 1) rows ≡ take i rows ++ r ∷ [] = take_more rows i r l ∙ ap (λ x. take i rows ++ x ∷ []) (sym is) in
              let next = next_left m in
              let sum : from + i + 1 ≡ from + (i + 1) = omega arith in
              let one : suc i ≡ i + 1 = omega arith in
              record {
                so_far = turn
                    ∙ ap (λ b. first_bad (b ∷ row_tests eq exist usable (take i rows ++ r ∷ []) (drop (suc i) rows)) (from + i)) passes
                    ∙ ap (first_bad (row_tests eq exist usable (take i rows ++ r ∷ []) (drop (suc i) rows))) sum
                    ∙ ap (λ es. first_bad (row_tests eq exist usable es (drop (suc i) rows)) (from + (i + 1))) (sym more)
                    ∙ ap (λ k. first_bad (row_tests eq exist usable (take (i + 1) rows) (drop k rows)) (from + (i + 1))) one;
                entries = u ∙ ap (λ es. used ++ take 1 es) next ∙ ap (λ es. es ++ r ∷ []) t.entries ∙ sym more;
                free = v ∙ ap (drop 1) next ∙ ap (λ k. drop k (take usable rows)) one;
                few = omega arith;
              }
          | inr m ↦ let f : Ok x ≡ Err Full = full.1 (none_left m) in absurd (cc)
        ]
      where
        not_present : next_is_present eq used left ≡ false
        not_present = elim (next_is_present eq used left) as (λ b. ((Ok x ≡ Err Present) ↔ IsTrue b) → b ≡ false) [ true ↦ λ p. let f : Ok x ≡ Err Present = p.1 refl in absurd (cc) | false ↦ λ p. refl ] present

  -- all rows are good and taken in
  pub all_taken : (i : ℕ) (used left : List (Row K V)) → Taken i used left → i ≡ length rows → (first_bad tests from ≡ None) × (used ≡ rows)
  all_taken i used left t e = (
    t.so_far
        ∙ ap (λ k. first_bad (row_tests eq exist usable (take i rows) (drop k rows)) (from + i)) e
        ∙ ap (λ rs. first_bad (row_tests eq exist usable (take i rows) rs) (from + i)) (drop-length rows),
    t.entries ∙ ap (λ k. take k rows) e ∙ take-length rows,
  )
