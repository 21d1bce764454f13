-- The chains after a row is put behind the others, or one is written over with its key and link kept.
use Rattle.std.proofs.Common.{◌≡◌, ℕ, zero, suc, ◌+◌, ◌-◌, ◌<◌, ◌≤◌, Bool, true, false, IsTrue, ◌≢◌, List, [], ◌∷◌, map, length, get_or, ◌++◌, if◌then◌else◌, set, None, Some, ◌==◌, sym, refl, ap, ◌∙◌, subst, inl, inr, add-one, arith, length-set, get_or-set_other, get_or-set_same, below_more, take, drop, is_some}
use Rattle.std.proofs.lemmas.Grind.{get_or_default_zero}
use Rattle.std.proofs.lemmas.List.{take-set, drop-set, length-drop, get_or-map}
use Rattle.std.proofs.Math.Seq.{drop-cons}
use mathlib.Core.Path.{fun_ext}
use lib.Seq.{map-set, map-set_same}
use Rattle.std.proofs.lemmas.Bool.{cond-true, cond-false, cases_eq, eq-eqb, ne_eqb}
use Rattle.keyed.specs.declared.row.Row.{Row}
use Rattle.keyed.specs.Entries.{find, put, next_is_present}
use Rattle.keyed.specs.Chains.{latest, bucket_of, in_bucket, IsHeaded, IsLinked, ChainFacts, IsChained, IsSound}
use Rattle.keyed.specs.Rows.{part_at, hash_at, has_key}
use Rattle.keyed.proofs.Buckets.{bucket_of_lt}
use Rattle.keyed.proofs.Latest.{latest-same, latest-false}
use Rattle.keyed.proofs.Finds.{find_put, put_nowhere}

-- f and g agree below n
abbrev Agree : {X : Type 0} → (ℕ → X) → (ℕ → X) → ℕ → Type 0
Agree f g n = (j : ℕ) → j < n → f j ≡ g j

bucket_same : (hashes hashes' : ℕ → ℕ) (buckets b n : ℕ) → Agree hashes hashes' n → latest (in_bucket hashes buckets b) n ≡ latest (in_bucket hashes' buckets b) n
bucket_same hashes hashes' buckets b n a =
    latest-same (in_bucket hashes buckets b) (in_bucket hashes' buckets b) n (λ j l. ap (λ h. bucket_of h buckets == b) (a j l))

headed_same : (hashes hashes' : ℕ → ℕ) (heads : List ℕ) (n : ℕ) → Agree hashes hashes' n → IsHeaded hashes heads n → IsHeaded hashes' heads n
headed_same hashes hashes' heads n a h b l = h b l ∙ bucket_same hashes hashes' (length heads) b n a

linked_same : (hashes hashes' links links' : ℕ → ℕ) (buckets n : ℕ) → Agree hashes hashes' n → Agree links links' n → IsLinked hashes links buckets n → IsLinked hashes' links' buckets n
linked_same hashes hashes' links links' buckets n a b h j l =
    sym (b j l) ∙ h j l ∙ ap (λ x. latest (in_bucket hashes buckets (bucket_of x buckets)) j) (a j l)
    ∙ bucket_same hashes hashes' buckets (bucket_of (hashes' j) buckets) j (λ i m. a i (omega arith))

headed_more : (hashes : ℕ → ℕ) (n b : ℕ) (heads : List ℕ) → b < length heads → b ≡ bucket_of (hashes n) (length heads) → IsHeaded hashes heads n → IsHeaded hashes (set heads b (n + 1)) (n + 1)
headed_more hashes n b heads l is h =
    rw (length-set heads b (n + 1)) (λ c m.
    elim (cases_eq c b) [
      | inl s ↦
          let t : in_bucket hashes (length heads) b n ≡ true = eq-eqb _ _ (sym is) in
          rw s (get_or-set_same heads b (n + 1) 0 l ∙ rw add-one (sym (cond-true (in_bucket hashes (length heads) b n) (suc n) (latest (in_bucket hashes (length heads) b) n) t)))
      | inr d ↦
          let f : in_bucket hashes (length heads) c n ≡ false = ne_eqb _ _ (λ x. d (sym (is ∙ x))) in
          get_or-set_other heads b c (n + 1) 0 d ∙ h c m ∙ rw add-one (sym (cond-false (in_bucket hashes (length heads) c n) (suc n) (latest (in_bucket hashes (length heads) c) n) f))
    ])

module _ {X Y : Type 0} (f : X → Y) (y : Y) (xs : List X) where
  -- a part of each element, after a write that keeps that part
  part_at-kept : (j : ℕ) (x d : X) → f x ≡ f (get_or xs j d) → (i : ℕ) → part_at f y xs i ≡ part_at f y (set xs j x) i
  part_at-kept j x d e i = ap (λ ys. get_or ys i y) (sym (map-set_same f xs j x d e))

  part_at-other : (j : ℕ) (x : X) (i : ℕ) → i < j → part_at f y xs i ≡ part_at f y (set xs j x) i
  part_at-other j x i l =
      let d : i ≢ j = omega arith in
      sym (ap (λ ys. get_or ys i y) (map-set f xs j x) ∙ get_or-set_other (map f xs) j i (f x) y d)

module _ {K V : Type 0} (hash : K → ℕ) (eq : K → K → Bool) where
  -- rows with the same keys, and the same links, below the bound
  chained_same : (rows rows' : List (Row K V)) (links links' heads : List ℕ) (n : ℕ)
      → ((Y : Type 0) (f : K → Y) (y : Y) (i : ℕ) → i < n → part_at (λ r. f r.key) y rows i ≡ part_at (λ r. f r.key) y rows' i)
      → ((i : ℕ) → i < n → get_or links i 0 ≡ get_or links' i 0) → ChainFacts hash eq rows links heads n → ChainFacts hash eq rows' links' heads n
  chained_same rows rows' links links' heads n keys same c =
      record {
        headed = headed_same (hash_at hash rows) (hash_at hash rows') heads n (keys ℕ hash 0) c.headed;
        linked = linked_same (hash_at hash rows) (hash_at hash rows') (λ i. get_or links i 0) (λ i. get_or links' i 0) (length heads) n (keys ℕ hash 0) same c.linked;
        distinct = λ j l. sym (latest-same _ _ j (λ i m.
            keys Bool (λ key. has_key eq rows key i) false j l
            ∙ ap (λ (g : K → Bool). part_at (λ (r : Row K V). g r.key) false rows' j) (fun_ext (λ key. keys Bool (λ x. eq x key) false i (omega arith))))) ∙ c.distinct j l;
        laws = c.laws;
        respects_eq = c.respects_eq;
      }

  -- a row whose value alone is written
  pub chained_over : (rows : List (Row K V)) (links heads : List ℕ) (n j : ℕ) (value : V) (d : Row K V) → IsChained hash eq rows links heads n
      → IsChained hash eq (set rows j (record { key = (get_or rows j d).key; value = value })) links heads n
  unfolding IsChained
  chained_over rows links heads n j value d c =
      let r : Row K V = record { key = (get_or rows j d).key; value = value } in
      chained_same rows (set rows j r) links links heads n (λ Y f y i _. part_at-kept (λ x. f x.key) y rows j r d refl i) (λ i _. refl) c

  -- a row that is not used
  pub chained_past : (rows : List (Row K V)) (links heads : List ℕ) (n : ℕ) (r : Row K V) → IsChained hash eq rows links heads n → IsChained hash eq (set rows n r) links heads n
  unfolding IsChained
  chained_past rows links heads n r c =
      chained_same rows (set rows n r) links links heads n (λ Y f y i l. part_at-other (λ x. f x.key) y rows n r i l) (λ i _. refl) c

  -- no used row has a key that is not found
  nowhere : (rows : List (Row K V)) (n : ℕ) (key : K) → n ≤ length rows → find eq (take n rows) key ≡ None → (j : ℕ) → j < n → has_key eq rows key j ≡ false
  nowhere [] zero key h e j l = absurd (omega arith)
  nowhere [] (suc n) key h e j l = absurd (omega arith)
  nowhere (r ∷ rows) zero key h e j l = absurd (omega arith)
  nowhere (r ∷ rows) (suc n) key h e zero l = grind arith
  nowhere (r ∷ rows) (suc n) key h e (suc j) l = let m : n ≤ length rows = omega arith in let k : j < n = omega arith in grind (arith, nowhere rows n key m)

  next_is_new : (rows : List (Row K V)) (n : ℕ) (d : Row K V) → n < length rows → next_is_present eq (take n rows) (drop n rows) ≡ false → find eq (take n rows) (get_or rows n d).key ≡ None
  next_is_new rows n d l new =
      let k : is_some (find eq (take n rows) (get_or rows n d).key) ≡ false = rw (drop-cons rows n d l) at new in
      grind arith

  -- a row as it stands, as the head of its key's bucket
  pub chained_next : (rows : List (Row K V)) (links heads : List ℕ) (n b next : ℕ) (d : Row K V) → n < length rows → length rows ≤ length links → 0 < length heads → b ≡ bucket_of (hash (get_or rows n d).key) (length heads) → next ≡ get_or heads b 0
      → next_is_present eq (take n rows) (drop n rows) ≡ false → IsChained hash eq rows links heads n
      → IsChained hash eq rows (set links n next) (set heads b (n + 1)) (n + 1)
  unfolding IsChained
  chained_next rows links heads n b next d l fit some is link new c =
      let key = (get_or rows n d).key in
      let hashes = hash_at hash rows in
      let links' = set links n next in
      let lt : b < length heads = rw is (bucket_of_lt _ _ some) in
      let inside : n < length links = omega arith in
      let here : b ≡ bucket_of (hashes n) (length heads) = is ∙ ap (λ x. bucket_of x (length heads)) (sym (get_or-map (λ (r : Row K V). hash r.key) rows n d 0 l)) in
      let k = chained_same rows rows links links' heads n (λ Y f y i _. refl) (λ i m. let o : i ≢ n = omega arith in sym (get_or-set_other links n i next 0 o)) c in
      let linked : get_or links' n 0 ≡ latest (in_bucket hashes (length heads) (bucket_of (hashes n) (length heads))) n
      = get_or-set_same links n next 0 inside ∙ link ∙ k.headed b lt ∙ ap (λ x. latest (in_bucket hashes (length heads) x) n) here in
      let absent = nowhere rows n key (omega arith) (next_is_new rows n d l new) in
      let alone : latest (λ i. part_at (λ row. has_key eq rows row.key i) false rows n) n ≡ 0
      = latest-same (λ i. part_at (λ row. has_key eq rows row.key i) false rows n) (λ i. false) n
      (λ i m. get_or-map (λ (r : Row K V). has_key eq rows r.key i) rows n d false l ∙ absent i m) ∙ latest-false n in
      record {
        headed = headed_more hashes n b heads lt here k.headed;
        linked = rw (length-set heads b (n + 1)) (below_more (λ j. get_or links' j 0 ≡ latest (in_bucket hashes (length heads) (bucket_of (hashes j) (length heads))) j) n k.linked linked);
        distinct = below_more (λ j. latest (λ i. part_at (λ row. has_key eq rows row.key i) false rows j) j ≡ 0) n k.distinct alone;
        laws = c.laws;
        respects_eq = c.respects_eq;
      }

  pub sound_next : (rows : List (Row K V)) (links heads : List ℕ) (n b next : ℕ) (d : Row K V) → IsSound hash eq rows links heads n → 0 < length (drop n rows) → next_is_present eq (take n rows) (drop n rows) ≡ false
      → b ≡ bucket_of (hash (get_or rows n d).key) (length heads) → next ≡ get_or heads b next → IsSound hash eq rows (set links n next) (set heads b (n + 1)) (n + 1)
  sound_next rows links heads n b next d s some new is link =
      let l : n < length rows = omega (arith, length-drop n rows) in
      let some_bucket : 0 < length heads = s.some_bucket (omega arith) in
      let inside : b < length heads = rw is (bucket_of_lt _ _ some_bucket) in
      record {
        within = omega arith;
        few = s.few;
        room_for_links = rw (length-set links n next) s.room_for_links;
        some_bucket = λ k. rw (length-set heads b (n + 1)) (s.some_bucket k);
        chained = chained_next rows links heads n b next d l s.room_for_links some_bucket is (link ∙ get_or_default_zero heads b next inside) new s.chained;
      }

  -- what is found after an overwriting and after an addition
  pub chained_tells : (rows : List (Row K V)) (links heads : List ℕ) (n : ℕ) → IsChained hash eq rows links heads n
      → IsChained hash eq rows links heads n
      × ((key : K) (value : V) (q : K) → find eq (put eq (take n rows) key value) q ≡ if eq q key then Some value else find eq (take n rows) q)
      × ((key : K) (value : V) → find eq (take n rows) key ≡ None → put eq (take n rows) key value ≡ take n rows ++ record { key = key; value = value } ∷ [])
  unfolding IsChained
  chained_tells rows links heads n c = (c, λ key value q. find_put eq (take n rows) key value q c.laws, λ key value. put_nowhere eq (take n rows) key value)

-- what the rows are after the next one is written
pub next_written : {X : Type 0} (rows rows' : List X) (n : ℕ) (r : X) → n < length rows → rows' ≡ set rows n r → (take n rows' ++ take 1 (drop n rows') ≡ take n rows ++ r ∷ []) × (drop 1 (drop n rows') ≡ drop 1 (drop n rows))
next_written rows rows' n r l is = (rw (is, take-set rows n r, drop-set rows n r l) refl, rw (is, drop-set rows n r l, drop-cons rows n r l, add-one) refl)

-- what is told of a row's write
pub ruleset row_written = (length-set, take-set, drop-set, chained_over, chained_past, chained_tells)
