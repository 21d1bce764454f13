-- Rows with tags: what a search may leave out, and what stays true when a row is written.
use Rattle.std.proofs.Common.{◌≡◌, ℕ, zero, suc, ◌+◌, ◌*◌, ◌%◌, ◌<◌, ◌≤◌, Bool, true, false, List, [], ◌∷◌, length, get_or, drop, take, set, map, position, slice_index, Some, None, Option, ◌==◌, refl, sym, ap, ◌∙◌, ◌++◌, inl, inr, arith, length-append, length-drop, length-take-le}
use Rattle.std.specs.List.{position_or_len}
use Rattle.std.specs.Option.{option_map}
use Rattle.std.proofs.lemmas.Bool.{and_parts, eqb-true, cases_eq}
use lib.Seq.{take-set-lt, map-set_same, get_or-append_seam}
use Rattle.std.proofs.lemmas.List.{get_or-map, get_or-set_same, get_or-set_other, get_or_append_left, length-map, length-set, map-append, take_more_set}
use Rattle.std.proofs.lemmas.List.Quantifiers.{position-Some}
use Rattle.hir_def.specs.declared.ModuleId.{ModuleId}
use Rattle.hir_def.specs.declared.Name.{Name}
use Rattle.item_scope.specs.declared.place.Place.TheVariants.{Empty}
use Rattle.variants.specs.declared.own_places.AnyPlace.{AnyPlace}
use Rattle.variants.specs.declared.own_places.OwnPlace.{OwnPlace}
use Rattle.variants.specs.Spaces.{Space}
use Rattle.variants.specs.Own.{row, is_of}
use Rattle.variants.specs.Tags.{tag_of, row_tag, tag_at, NoneBefore, IsTagged}

skip : {X : Type 0} (p : X → Bool) (d : X) (xs : List X) (from : ℕ) → from ≤ length xs → ((k : ℕ) → k < from → p (get_or xs k d) ≡ false) → position_or_len p xs ≡ from + position_or_len p (drop from xs)
skip p d xs zero l h = omega arith
skip p d [] (suc from) l h = absurd (omega arith)
skip p d (x ∷ xs) (suc from) l h =
    let e : p x ≡ false = h 0 (omega arith) in
    let s = skip p d xs from (omega arith) (λ k i. h (suc k) (omega arith)) in
    rw e (omega arith)

pub found_further : {X : Type 0} (p : X → Bool) (d : X) (xs : List X) (from : ℕ) → from ≤ length xs → ((k : ℕ) → k < from → p (get_or xs k d) ≡ false) → position p xs ≡ option_map (λ k. from + k) (position p (drop from xs))
found_further p d xs from l h = grind (arith, skip p d xs from l h, length-drop from xs)

-- a tag's row is told lower, and the others' as before
lowered : (firsts : List ℕ) (tag first j k : ℕ) → tag < length firsts → first ≤ slice_index firsts tag → slice_index firsts j ≤ k → slice_index (set firsts tag first) j ≤ k
lowered firsts tag first j k l le below = grind (arith, cases_eq j tag, get_or-set_same firsts tag first 0 l, get_or-set_other firsts tag j first 0)

-- some row
free : {T : Type 0} → Space T → OwnPlace
free s = row (record { 0 = 0 }) (record { 0 = 0 }) (s.to Empty)

module _ {T : Type 0} (s : Space T) (m : ModuleId) (n : Name) where
  has_tag : (r : OwnPlace) → is_of s m n r ≡ true → row_tag r ≡ tag_of m n
  has_tag r here =
      let parts = and_parts (r.at.0 == m.0) _ here in
      let at = eqb-true r.at.0 m.0 parts.0 in
      let name = eqb-true r.name.0 n.0 (and_parts (r.name.0 == n.0) _ parts.1).0 in
      λ i. (at i * 61 + name i) % 1024

  pub is_skipped : (rows : List OwnPlace) (firsts : List ℕ) → NoneBefore rows firsts → (d : OwnPlace) (index : ℕ) → index < length rows → index < slice_index firsts (tag_of m n) → is_of s m n (get_or rows index d) ≡ false
  is_skipped rows firsts none d index inside before = each (is_of s m n (get_or rows index d)) refl
    where
      each : (b : Bool) → is_of s m n (get_or rows index d) ≡ b → b ≡ false
      each false is = refl
      each true is =
          let tag : tag_at rows index ≡ row_tag (get_or rows index d) = get_or-map row_tag rows index d 0 inside in
          let first : slice_index firsts (tag_at rows index) ≤ index = none index inside in
          let before_first : slice_index firsts (tag_at rows index) ≤ index = first in
          let same : tag_at rows index ≡ tag_of m n = tag ∙ has_tag (get_or rows index d) is in
          absurd (let f : slice_index firsts (tag_of m n) ≤ index = rw same at first in omega arith)

  -- the rows are searched from the first with the tag on
  pub found_from : (rows : List OwnPlace) (firsts : List ℕ) → NoneBefore rows firsts → (first : ℕ) → first ≡ slice_index firsts (tag_of m n) → first ≤ length rows
      → (further : Option ℕ) → further ≡ position (is_of s m n) (drop first rows) → option_map (λ k. first + k) further ≡ position (is_of s m n) rows
  found_from rows firsts none first is within further found =
      ap (option_map (λ k. first + k)) found
      ∙ sym (found_further (is_of s m n) (free s) rows first within (λ k l. is_skipped rows firsts none (free s) k (omega arith) (omega arith)))

  -- or nowhere, if no row has it
  pub found_nowhere : (rows : List OwnPlace) (firsts : List ℕ) → NoneBefore rows firsts → (first : ℕ) → first ≡ slice_index firsts (tag_of m n) → length rows ≤ first → None ≡ position (is_of s m n) rows
  found_nowhere rows firsts none first is all =
      let all_pass = skip (is_of s m n) (free s) rows (length rows) (omega arith) (λ k l. is_skipped rows firsts none (free s) k l (omega arith)) in
      sym (grind arith)

  -- a row is written in place of one of the same place
  pub written_tagged : (rows now : List OwnPlace) (firsts : List ℕ) (used : ℕ) → IsTagged rows firsts used → take used rows ≡ now → (index : ℕ) (p : AnyPlace) → Some index ≡ position (is_of s m n) now
      → IsTagged (set rows index (row m n p)) firsts used
  written_tagged rows now firsts used tagged is index p found =
      let d = row m n p in
      let (l, t, h) = position-Some (is_of s m n) now index d (sym found) in
      let inside : index < used = let e = rw (← is) at l in let k : length (take used rows) ≡ used = length-take-le used rows (let w = tagged.within in let r = tagged.room in omega arith) in omega arith in
      let old : NoneBefore now firsts = rw is at tagged.none_before in
      let kept : take used (set rows index d) ≡ set now index d = take-set-lt used rows index d inside ∙ ap (λ rs. set rs index d) is in
      let tags : map row_tag (set now index d) ≡ map row_tag now = map-set_same row_tag now index d d (sym (has_tag (get_or now index d) t)) in
      record {
        within = tagged.within;
        room = length-set rows index d ∙ tagged.room;
        tags = tagged.tags;
        none_before = λ k below. rw kept (rw tags (old k (let b = rw kept at below in omega (arith, length-set now index d))));
      }

  -- a row is written behind all
  pub appended_tagged : (rows : List OwnPlace) (firsts : List ℕ) (used : ℕ) → IsTagged rows firsts used → used < 64 → (p : AnyPlace) (tag first : ℕ) → tag ≡ tag_of m n → tag < 1024 → first ≤ slice_index firsts tag → first ≤ used
      → IsTagged (set rows used (row m n p)) (set firsts tag first) (used + 1)
  appended_tagged rows firsts used tagged few p tag first is small lower within =
      let d = row m n p in
      let room : used < length rows = let r = tagged.room in omega arith in
      let fits : used ≤ length rows = omega arith in
      let count : length (take used rows) ≡ used = length-take-le used rows fits in
      let inside : tag < length firsts = let e = tagged.tags in omega arith in
      let grown : take (used + 1) (set rows used d) ≡ take used rows ++ d ∷ [] = take_more_set rows used d room in
      let tags : map row_tag (take used rows ++ d ∷ []) ≡ map row_tag (take used rows) ++ tag ∷ [] = map-append row_tag (take used rows) (d ∷ []) ∙ ap (λ x. map row_tag (take used rows) ++ x ∷ []) (sym is) in
      let held : length (map row_tag (take used rows)) ≡ used = length-map (take used rows) row_tag ∙ count in
      record {
        within = omega arith;
        room = length-set rows used d ∙ tagged.room;
        tags = length-set firsts tag first ∙ tagged.tags;
        none_before = λ k below.
            rw grown (rw tags (
            elim (cases_eq k used) [
              | inl e ↦ rw e (let seam : slice_index (map row_tag (take used rows) ++ tag ∷ []) used ≡ tag = ap (slice_index (map row_tag (take used rows) ++ tag ∷ [])) (sym held) ∙ get_or-append_seam (map row_tag (take used rows)) tag [] 0 in
                  rw seam (rw (get_or-set_same firsts tag first 0 inside) within))
              | inr other ↦
                  let low : k < used = let b = rw grown at below in let e = length-append (take used rows) (d ∷ []) in omega arith in
                  let earlier : slice_index (map row_tag (take used rows) ++ tag ∷ []) k ≡ tag_at (take used rows) k = get_or_append_left (map row_tag (take used rows)) (tag ∷ []) 0 k (omega arith) in
                  rw earlier (lowered firsts tag first (tag_at (take used rows) k) k inside lower (tagged.none_before k (omega arith)))
            ]));
      }
