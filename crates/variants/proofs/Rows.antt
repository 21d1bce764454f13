-- Rows that are read or written at the position of a place, and what is told of them.
use Rattle.std.proofs.Common.{◌≡◌, ℕ, zero, suc, ◌+◌, ◌<◌, ◌≤◌, true, false, if◌then◌else◌, List, [], ◌∷◌, ◌++◌, length, get_or, set, take, position, is_some, Some, None, Option, ◌==◌, refl, sym, ap, ◌∙◌, arith, length-take-le, get_or-take}
use Rattle.std.proofs.lemmas.Bool.{and_parts}
use Rattle.std.proofs.lemmas.List.Quantifiers.{position-Some}
use Rattle.std.proofs.lemmas.List.{take_more_set}
use Rattle.hir_def.specs.declared.ModuleId.{ModuleId}
use Rattle.hir_def.specs.declared.Name.{Name}
use Rattle.item_scope.specs.declared.place.Place.{Place}
use Rattle.item_scope.specs.Places.{stepped}
use Rattle.variants.specs.declared.own_places.OwnPlace.{OwnPlace}
use Rattle.variants.specs.Spaces.{Space}
use Rattle.variants.specs.Own.{row, is_of, own, put, came, copied}
use lib.Seq.{take-set-lt}

module _ {T : Type 0} (s : Space T) (m : ModuleId) (n : Name) where
  own_first : (rows : List OwnPlace) (index : ℕ) (d : OwnPlace) → index < length rows → is_of s m n (get_or rows index d) ≡ true → ((k : ℕ) → k < index → is_of s m n (get_or rows k d) ≡ false)
      → own s rows m n ≡ s.of (get_or rows index d).place
  own_first [] index d l t h = absurd (omega arith)
  own_first (r ∷ rows) zero d l t h = rw t refl
  own_first (r ∷ rows) (suc index) d l t h =
      let f : is_of s m n r ≡ false = h 0 (omega arith) in
      rw f (own_first rows index d (omega arith) t (λ k i. h (suc k) (omega arith)))

  put_first : (rows : List OwnPlace) (index : ℕ) (d : OwnPlace) (p : Place T) → index < length rows → is_of s m n (get_or rows index d) ≡ true → ((k : ℕ) → k < index → is_of s m n (get_or rows k d) ≡ false)
      → put s rows m n p ≡ set rows index (row m n (s.to p))
  put_first [] index d p l t h = absurd (omega arith)
  put_first (r ∷ rows) zero d p l t h = rw t refl
  put_first (r ∷ rows) (suc index) d p l t h =
      let f : is_of s m n r ≡ false = h 0 (omega arith) in
      rw f (ap (λ rs. r ∷ rs) (put_first rows index d p (omega arith) t (λ k i. h (suc k) (omega arith))))

  own_nowhere : (rows : List OwnPlace) → position (is_of s m n) rows ≡ None → own s rows m n ≡ None
  own_nowhere [] is = refl
  own_nowhere (r ∷ rows) is = grind (arith, own_nowhere rows)

  put_nowhere : (rows : List OwnPlace) (p : Place T) → position (is_of s m n) rows ≡ None → put s rows m n p ≡ rows ++ row m n (s.to p) ∷ []
  put_nowhere [] p is = refl
  put_nowhere (r ∷ rows) p is = grind (arith, put_nowhere rows p)

  -- the same of the used rows
  module _ (rows now : List OwnPlace) (used : ℕ) (fits : used ≤ length rows) (is : take used rows ≡ now) where
    inside : (index : ℕ) (d : OwnPlace) → position (is_of s m n) now ≡ Some index → index < used
    inside index d found =
        let l : index < length now = (position-Some (is_of s m n) now index d found).0 in
        rw (length-take-le used rows fits) at (rw (← is) at l)

    pub read : (index : ℕ) (d : OwnPlace) → Some index ≡ position (is_of s m n) now → s.of (get_or rows index d).place ≡ own s now m n
    read index d found =
        let (l, t, h) = position-Some (is_of s m n) now index d (sym found) in
        let e : get_or rows index d ≡ get_or now index d = sym (get_or-take used rows index d (inside index d (sym found))) ∙ ap (λ rs. get_or rs index d) is in
        ap (λ (r : OwnPlace). s.of r.place) e ∙ sym (own_first now index d l t h)

    pub written : (index : ℕ) (p : Place T) → Some index ≡ position (is_of s m n) now → take used (set rows index (row m n (s.to p))) ≡ put s now m n p
    written index p found =
        let d = row m n (s.to p) in
        let (l, t, h) = position-Some (is_of s m n) now index d (sym found) in
        take-set-lt used rows index d (inside index d (sym found)) ∙ ap (λ rs. set rs index d) is ∙ sym (put_first now index d p l t h)

  pub absent : (rows : List OwnPlace) → None ≡ position (is_of s m n) rows → None ≡ own s rows m n
  absent rows nowhere = sym (own_nowhere rows (sym nowhere))

  pub appended : (rows now : List OwnPlace) (used : ℕ) (p : Place T) → used < length rows → take used rows ≡ now → None ≡ position (is_of s m n) now
      → take (used + 1) (set rows used (row m n (s.to p))) ≡ put s now m n p
  appended rows now used p l is nowhere = take_more_set rows used _ l ∙ rw is (sym (put_nowhere now p (sym nowhere)))

  has_place : (r : OwnPlace) → is_of s m n r ≡ true → is_some (s.of r.place) ≡ true
  has_place r here = (and_parts (r.name.0 == n.0) _ (and_parts (r.at.0 == m.0) _ here).1).1

  -- a row more where the place had none
  length_put : (rows : List OwnPlace) (p : Place T) → length (put s rows m n p) ≡ length rows + (if is_some (own s rows m n) then 0 else 1)
  length_put [] p = refl
  length_put (r ∷ rows) p = grind (arith, has_place r, length_put rows p)

  pub put_within : (rows : List OwnPlace) (p : Place T) → length (put s rows m n p) ≤ length rows + 1
  put_within rows p = grind (arith, length_put rows p)

  pub length_came : (rows : List OwnPlace) (p : Place T) (e : Option T) → length (came s rows m n p e) ≡ length rows + copied s rows m n e
  length_came rows p None = omega arith
  length_came rows p (Some e) = length_put rows (stepped s.tests p e).place
