-- The position of a key among the used rows, by its latest row.
use Rattle.std.proofs.Common.{◌≡◌, ℕ, zero, suc, ◌-◌, ◌<◌, ◌≤◌, Bool, true, false, List, [], ◌∷◌, length, take, get_or, Some, None, position, sym, refl, ap, ◌∙◌, arith, length-take-le, get_or-take}
use mathlib.Core.Path.{fun_ext}
use Rattle.std.specs.Cmp.{IsEquivalence}
use Rattle.std.specs.List.{position_or_len}
use Rattle.std.proofs.lemmas.Bool.{false≢true, lt-ltb, le-ltb}
use Rattle.std.proofs.lemmas.List.{get_or-map}
use Rattle.std.proofs.lemmas.List.Sums.{position_or_len_is}
use Rattle.keyed.specs.declared.row.Row.{Row}
use Rattle.keyed.specs.Chains.{latest, IsDistinct}
use Rattle.keyed.specs.Rows.{part_at, has_key}
use Rattle.keyed.proofs.Latest.{latest-le, latest-passes, none-latest}

module _ {X : Type 0} (p : X → Bool) where
  position-is : (xs : List X) (i : ℕ) (d : X) → i < length xs → p (get_or xs i d) ≡ true → ((k : ℕ) → k < i → p (get_or xs k d) ≡ false) → position p xs ≡ Some i
  position-is xs i d l t h =
      let e : position_or_len p xs ≡ i = position_or_len_is p xs i d (omega arith) h (λ _. t) in
      rw (e, lt-ltb i (length xs) l)

  position-past : (xs : List X) (d : X) → ((k : ℕ) → k < length xs → p (get_or xs k d) ≡ false) → position p xs ≡ None
  position-past xs d h =
      let e : position_or_len p xs ≡ length xs = position_or_len_is p xs (length xs) d (omega arith) h (λ l. absurd (omega arith)) in
      rw (e, le-ltb (length xs) (length xs) (omega arith))

module _ {K V : Type 0} (eq : K → K → Bool) (laws : IsEquivalence eq) where
  abbrev is_key : K → Row K V → Bool
  is_key key e = eq e.key key

  -- the rows that have the key of a row with an equal key are those that have the key
  same_rows : (rows all : List (Row K V)) (key : K) (j : ℕ) → has_key eq rows key j ≡ true → (i : ℕ) → part_at (λ row. has_key eq all row.key i) false rows j ≡ has_key eq all key i
  same_rows [] all key j t i = absurd (false≢true t)
  same_rows (r ∷ rows) all key zero t i =
      ap (λ f. part_at f false all i) (fun_ext (λ (s : Row K V). laws.symm s.key r.key ∙ laws.congr r.key key s.key t ∙ laws.symm key s.key))
  same_rows (r ∷ rows) all key (suc j) t i = same_rows rows all key j t i

  -- the rows' and the entries' tests
  is_key-entry : (rows : List (Row K V)) (used i : ℕ) (key : K) (d : Row K V) → i < used → used ≤ length rows → is_key key (get_or (take used rows) i d) ≡ has_key eq rows key i
  is_key-entry rows used i key d l h =
      let m : i < length rows = omega arith in
      ap (is_key key) (get_or-take used rows i d l) ∙ sym (get_or-map (λ row. eq row.key key) rows i d false m)

  pub position_there : (rows : List (Row K V)) (used at : ℕ) (key : K) (d : Row K V) → used ≤ length rows → IsDistinct eq rows used → 0 < at → at ≡ latest (has_key eq rows key) used
      → position (is_key key) (take used rows) ≡ Some (at - 1)
  position_there rows used zero key d h a l e = absurd (omega arith)
  position_there rows used (suc j) key d h a l e =
      let s : suc j - 1 ≡ j = omega arith in
      let t : has_key eq rows key j ≡ true = rw (← e) at (latest-passes (has_key eq rows key) used) in
      let lt : j < used = rw (← e) at (latest-le (has_key eq rows key) used) in
      let none : latest (has_key eq rows key) j ≡ 0 = ap (λ f. latest f j) (sym (fun_ext (same_rows rows rows key j t))) ∙ a j lt in
      let n = length-take-le used rows h in
      let inside : j < length (take used rows) = rw n lt in
      rw s (position-is (is_key key) (take used rows) j d inside (is_key-entry rows used j key d lt h ∙ t)
      (λ k m. is_key-entry rows used k key d (omega arith) h ∙ none-latest (has_key eq rows key) j none k m))

  pub position_nowhere : (rows : List (Row K V)) (used : ℕ) (key : K) → used ≤ length rows → latest (has_key eq rows key) used ≡ 0 → position (is_key key) (take used rows) ≡ None
  position_nowhere [] zero key h e = refl
  position_nowhere [] (suc used) key h e = absurd (omega arith)
  position_nowhere (r ∷ rows) used key h e =
      position-past (is_key key) (take used (r ∷ rows)) r
      (λ k l. let m : k < used = rw (length-take-le used (r ∷ rows) h) at l in is_key-entry (r ∷ rows) used k key r m h ∙ none-latest (has_key eq (r ∷ rows) key) used e k m)
