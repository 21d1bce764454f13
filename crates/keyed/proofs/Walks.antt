-- A walk along the chain of a key's bucket.
use Rattle.std.proofs.Common.{◌≡◌, ℕ, zero, suc, ◌-◌, ◌<◌, ◌≤◌, Bool, true, false, List, [], ◌∷◌, length, get_or, Some, None, position, sym, ap, ◌∙◌, arith, take}
use Rattle.std.proofs.lemmas.Bool.{cond-true, cond-false, eqb-true, eq-eqb, false≢true}
use Rattle.std.proofs.lemmas.List.{get_or-map}
use Rattle.keyed.specs.declared.row.Row.{Row}
use Rattle.keyed.specs.Chains.{latest, bucket_of, in_bucket, ChainFacts, IsChained}
use Rattle.keyed.specs.Rows.{hash_at, has_key}
use Rattle.keyed.proofs.Buckets.{bucket_of_lt}
use Rattle.keyed.proofs.Latest.{is_end_or, latest-latest, latest-le, latest-passes}
use Rattle.keyed.proofs.Positions.{position_there, position_nowhere}

-- at `at`, one more than a row of the bucket or 0, a walk has passed no row of the key
pub record IsWalk (bucket key : ℕ → Bool) (used at : ℕ) : Type 0 where
  pub passed : latest key used ≡ latest key at
  pub within : at ≤ used
  pub inside : is_end_or bucket at ≡ true

module _ (bucket key : ℕ → Bool) (inside : (j : ℕ) → key j ≡ true → bucket j ≡ true) (used : ℕ) where
  walk_start : (at : ℕ) → at ≡ latest bucket used → IsWalk bucket key used at
  walk_start at e =
      rw e (record { passed = latest-latest bucket key inside used; within = latest-le bucket used; inside = latest-passes bucket used })

  walk_on : (at next : ℕ) → 0 < at → IsWalk bucket key used at → key (at - 1) ≡ false → next ≡ latest bucket (at - 1) → IsWalk bucket key used next × (next < at)
  walk_on zero next l w f e = absurd (omega arith)
  walk_on (suc j) next l w f e =
      let s : suc j - 1 ≡ j = omega arith in
      let f' : key j ≡ false = rw s at f in
      let e' : next ≡ latest bucket j = rw s at e in
      let k = latest-le bucket j in
      let p : latest key used ≡ latest key (latest bucket j) = w.passed ∙ cond-false (key j) (suc j) (latest key j) f' ∙ latest-latest bucket key inside j in
      rw e' (record { passed = p; within = omega (arith, w.within); inside = latest-passes bucket j }, omega arith)

  walk_hit : (at : ℕ) → 0 < at → IsWalk bucket key used at → key (at - 1) ≡ true → at ≡ latest key used
  walk_hit zero l w t = absurd (omega arith)
  walk_hit (suc j) l w t =
      let s : suc j - 1 ≡ j = omega arith in
      let t' : key j ≡ true = rw s at t in
      sym (w.passed ∙ cond-true (key j) (suc j) (latest key j) t')

module _ {K V : Type 0} (hash : K → ℕ) (eq : K → K → Bool) (rows : List (Row K V)) (links heads : List ℕ) (used : ℕ) (key : K) where
  -- the bucket of the key
  abbrev bucket : ℕ → Bool
  bucket = in_bucket (hash_at hash rows) (length heads) (bucket_of (hash key) (length heads))

  unfoldable pub IsWalkTo : ℕ → Type 0
  IsWalkTo at = IsWalk bucket (has_key eq rows key) used at

  module _ (c : ChainFacts hash eq rows links heads used) where
    -- the link of the row that a walk has reached
    next_is : (at : ℕ) → 0 < at → at ≤ used → is_end_or bucket at ≡ true → get_or links (at - 1) 0 ≡ latest bucket (at - 1)
    next_is zero h l t = absurd (omega arith)
    next_is (suc j) h l t =
        let s : suc j - 1 ≡ j = omega arith in
        rw s (c.linked j l ∙ ap (λ b. latest (in_bucket (hash_at hash rows) (length heads) b) j) (eqb-true _ _ t))

    same_hash : (all : List (Row K V)) (j : ℕ) → has_key eq all key j ≡ true → hash_at hash all j ≡ hash key
    same_hash [] j t = absurd (false≢true t)
    same_hash (r ∷ all) zero t = c.respects_eq r.key key t
    same_hash (r ∷ all) (suc j) t = same_hash all j t

    same_bucket : (j : ℕ) → has_key eq rows key j ≡ true → bucket j ≡ true
    same_bucket j t = eq-eqb _ _ (ap (λ h. bucket_of h (length heads)) (same_hash rows j t))

  pub walk_begins : (b : ℕ) → b ≡ bucket_of (hash key) (length heads) → 0 < length heads → IsChained hash eq rows links heads used → IsWalkTo (get_or heads b 0)
  unfolding IsChained IsWalkTo
  walk_begins b is some c =
      let lt = bucket_of_lt (hash key) (length heads) some in
      let w = walk_start bucket (has_key eq rows key) (same_bucket c) used _ (c.headed _ lt) in
      rw is w

  module _ (at : ℕ) (c : ChainFacts hash eq rows links heads used) (h : used ≤ length rows) (w : IsWalk bucket (has_key eq rows key) used at) where
    read_key : (d : Row K V) → 0 < at → has_key eq rows key (at - 1) ≡ eq (get_or rows (at - 1) d).key key
    read_key d l = let m : at - 1 < length rows = omega (arith, w.within) in get_or-map (λ (r : Row K V). eq r.key key) rows (at - 1) d false m

    read_next : 0 < at → get_or links (at - 1) 0 ≡ latest bucket (at - 1)
    read_next l = next_is c at l w.within w.inside

    falls : 0 < at → get_or links (at - 1) 0 < at
    falls l = omega (arith, read_next l, latest-le bucket (at - 1))

    hits : (d : Row K V) → 0 < at → eq (get_or rows (at - 1) d).key key ≡ true → position (λ e. eq e.key key) (take used rows) ≡ Some (at - 1)
    hits d l t =
        position_there eq c.laws rows used at key d h c.distinct l
        (walk_hit bucket (has_key eq rows key) (same_bucket c) used at l w (read_key d l ∙ t))

    ends : at ≤ 0 → position (λ e. eq e.key key) (take used rows) ≡ None
    ends l =
        let z : at ≡ 0 = omega arith in
        position_nowhere eq c.laws rows used key h (rw z at w.passed)

    goes_on-unfolded : (d : Row K V) → 0 < at → eq (get_or rows (at - 1) d).key key ≡ false → IsWalk bucket (has_key eq rows key) used (get_or links (at - 1) 0)
    goes_on-unfolded d l f = (walk_on bucket (has_key eq rows key) (same_bucket c) used at _ l w (read_key d l ∙ f) (read_next l)).0

  pub walk_goes_on : (at : ℕ) (d : Row K V) → IsChained hash eq rows links heads used → used ≤ length rows → 0 < at → IsWalkTo at → eq (get_or rows (at - 1) d).key key ≡ false → IsWalkTo (get_or links (at - 1) 0)
  unfolding IsChained IsWalkTo
  walk_goes_on at d c h l w f = goes_on-unfolded at c h w d l f

  -- what the walk tells of the row that it has reached
  pub walk_tells : (at : ℕ) → IsChained hash eq rows links heads used → used ≤ length rows → IsWalkTo at
      → IsWalkTo at × (at ≤ used)
      × (0 < at → get_or links (at - 1) 0 < at)
      × ((d : Row K V) → 0 < at → eq (get_or rows (at - 1) d).key key ≡ true → position (λ e. eq e.key key) (take used rows) ≡ Some (at - 1))
      × (at ≤ 0 → position (λ e. eq e.key key) (take used rows) ≡ None)
  unfolding IsChained IsWalkTo
  walk_tells at c h w = (w, w.within, falls at c h w, hits at c h w, ends at c h w)

-- how a walk begins, goes on and ends
pub ruleset walk = (walk_begins, walk_goes_on, walk_tells)
