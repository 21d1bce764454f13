-- Look-ups and writes by the position of a key.
use Rattle.std.proofs.Common.{◌≡◌, ℕ, zero, suc, ◌<◌, ◌≤◌, Bool, true, false, List, [], ◌∷◌, ◌++◌, length, get_or, set, Some, None, position, if◌then◌else◌, sym, refl, ap, ◌∙◌, arith, take, is_some, slice_get, length-take-le, get_or-take}
use Rattle.std.specs.Cmp.{IsEquivalence}
use Rattle.std.proofs.lemmas.List.Quantifiers.{position-Some}
use Rattle.keyed.specs.declared.row.Row.{Row}
use Rattle.keyed.specs.Entries.{find, put, Overwrites}
use lib.Seq.{take-set-lt}

pub none_first : {X : Type 0} (xs : List X) → None ≡ slice_get xs 0 → xs ≡ []
none_first [] is = refl
none_first (x ∷ xs) is = cc

module _ {K V : Type 0} (eq : K → K → Bool) where
  -- what a key's position tells of it
  pub record StandsAt (entries : List (Row K V)) (key : K) (index : ℕ) (entry : Row K V) : Type 0 where
    pub inside : index < length entries
    pub finds : find eq entries key ≡ Some entry.value
    pub puts : (value : V) → put eq entries key value ≡ set entries index (record { key = entry.key; value = value })

  find_first : (entries : List (Row K V)) (key : K) (index : ℕ) (d : Row K V) → index < length entries → eq (get_or entries index d).key key ≡ true → ((k : ℕ) → k < index → eq (get_or entries k d).key key ≡ false)
      → find eq entries key ≡ Some (get_or entries index d).value
  find_first [] key index d l t h = absurd (omega arith)
  find_first (e ∷ entries) key zero d l t h = rw t
  find_first (e ∷ entries) key (suc index) d l t h =
      let f : eq e.key key ≡ false = h 0 (omega arith) in
      rw f (find_first entries key index d (omega arith) t (λ k m. h (suc k) (omega arith)))

  put_first : (entries : List (Row K V)) (key : K) (index : ℕ) (d : Row K V) (value : V) → index < length entries → eq (get_or entries index d).key key ≡ true → ((k : ℕ) → k < index → eq (get_or entries k d).key key ≡ false)
      → put eq entries key value ≡ set entries index (record { key = (get_or entries index d).key; value = value })
  put_first [] key index d value l t h = absurd (omega arith)
  put_first (e ∷ entries) key zero d value l t h = rw t
  put_first (e ∷ entries) key (suc index) d value l t h =
      let f : eq e.key key ≡ false = h 0 (omega arith) in
      rw f (ap (λ es. e ∷ es) (put_first entries key index d value (omega arith) t (λ k m. h (suc k) (omega arith))))

  pub stands_at : (entries : List (Row K V)) (key : K) (index : ℕ) (d : Row K V) → position (λ e. eq e.key key) entries ≡ Some index → StandsAt entries key index (get_or entries index d)
  stands_at entries key index d is =
      let (l, t, h) = position-Some (λ (e : Row K V). eq e.key key) entries index d is in
      record { inside = l; finds = find_first entries key index d l t h; puts = λ value. put_first entries key index d value l t h }

  pub find_nowhere : (entries : List (Row K V)) (key : K) → position (λ e. eq e.key key) entries ≡ None → find eq entries key ≡ None
  find_nowhere [] key is = refl
  find_nowhere (e ∷ entries) key is = grind (arith, find_nowhere entries key)

  pub put_nowhere : (entries : List (Row K V)) (key : K) (value : V) → find eq entries key ≡ None → put eq entries key value ≡ entries ++ record { key = key; value = value } ∷ []
  put_nowhere [] key value is = refl
  put_nowhere (e ∷ entries) key value is = grind (arith, put_nowhere entries key value)

  -- an overwriting changes what is found of equal keys alone
  pub find_put : (entries : List (Row K V)) (key : K) (value : V) (q : K) → IsEquivalence eq → find eq (put eq entries key value) q ≡ if eq q key then Some value else find eq entries q
  find_put [] key value q laws = rw (laws.symm q key)
  find_put (e ∷ entries) key value q laws =
      grind (arith, find_put entries key value q laws, laws.symm q key, laws.symm e.key key, laws.symm e.key q, laws.congr e.key key q, laws.congr key q e.key, laws.congr q key e.key)

  pub overwrites_put : (old new : List (Row K V)) (key : K) (value : V) → IsEquivalence eq → new ≡ put eq old key value → Overwrites eq old new key value
  overwrites_put old new key value laws is q = rw is (find_put old key value q laws)

  pub overwrites_append : (old new : List (Row K V)) (key : K) (value : V) → IsEquivalence eq → is_some (find eq old key) ≡ false → new ≡ old ++ record { key = key; value = value } ∷ [] → Overwrites eq old new key value
  overwrites_append old new key value laws new_key is =
      let none : find eq old key ≡ None = grind arith in
      overwrites_put old new key value laws (is ∙ sym (put_nowhere old key value none))

  -- what the position of a key tells of the rows, and of an overwriting
  pub find_tells : (rows : List (Row K V)) (used : ℕ) (key : K) → used ≤ length rows
      → (find eq (take used rows) key ≡ find eq (take used rows) key)
      × ((index : ℕ) (d : Row K V) → position (λ e. eq e.key key) (take used rows) ≡ Some index → find eq (take used rows) key ≡ Some (get_or rows index d).value)
      × (position (λ e. eq e.key key) (take used rows) ≡ None → find eq (take used rows) key ≡ None)
      × ((index : ℕ) (d : Row K V) (value : V) → position (λ e. eq e.key key) (take used rows) ≡ Some index
      → take used (set rows index (record { key = (get_or rows index d).key; value = value })) ≡ put eq (take used rows) key value)
  find_tells rows used key h = (refl, λ index d is. found index d is, find_nowhere (take used rows) key, λ index d value is. overwritten index d value is)
    where
      inside : (index : ℕ) (d : Row K V) → position (λ e. eq e.key key) (take used rows) ≡ Some index → index < used
      inside index d is = rw (length-take-le used rows h) at (stands_at (take used rows) key index d is).inside

      found : (index : ℕ) (d : Row K V) → position (λ e. eq e.key key) (take used rows) ≡ Some index → find eq (take used rows) key ≡ Some (get_or rows index d).value
      found index d is =
          (stands_at (take used rows) key index d is).finds
          ∙ ap (λ (e : Row K V). Some e.value) (get_or-take used rows index d (inside index d is))

      overwritten : (index : ℕ) (d : Row K V) (value : V) → position (λ e. eq e.key key) (take used rows) ≡ Some index
          → take used (set rows index (record { key = (get_or rows index d).key; value = value })) ≡ put eq (take used rows) key value
      overwritten index d value is =
          let r : Row K V = record { key = (get_or rows index d).key; value = value } in
          take-set-lt used rows index r (inside index d is)
          ∙ ap (λ (e : Row K V). set (take used rows) index (record { key = e.key; value = value })) (sym (get_or-take used rows index d (inside index d is)))
          ∙ sym ((stands_at (take used rows) key index d is).puts value)

  -- a row of the key is written over
  pub put_written : (rows rows' : List (Row K V)) (used index : ℕ) (key : K) (value : V) (r : Row K V) → used ≤ length rows → position (λ e. eq e.key key) (take used rows) ≡ Some index → r ≡ get_or rows index r → rows' ≡ set rows index (record { key = r.key; value = value })
      → take used rows' ≡ put eq (take used rows) key value
  put_written rows rows' used index key value r h is stands written =
      ap (take used) (written ∙ ap (λ (e : Row K V). set rows index (record { key = e.key; value = value })) stands)
      ∙ (find_tells rows used key h).3 index r value is
