-- Rows in chains: each bucket has a head, and each row has a link to the row before it in its bucket.
use Rattle.std.specs.Prelude.{◌≡◌, ℕ, zero, suc, ◌*◌, ◌/◌, ◌%◌, ◌^◌, ◌≤◌, ◌<◌, ◌==◌, Bool, false, IsTrue, List, length, slice_index, if◌then◌else◌}
use Rattle.std.specs.Cmp.{IsEquivalence}
use Rattle.keyed.specs.declared.row.Row.{Row}
use Rattle.keyed.specs.Rows.{part_at, hash_at, has_key}

-- one more than the last number below the bound that passes, or 0
abbrev pub latest : (ℕ → Bool) → ℕ → ℕ
latest passes zero = 0
latest passes (suc n) = if passes n then suc n else latest passes n

-- of so many buckets the one of a hash: it stands as far on among them as the hash among all hashes
unfoldable pub bucket_of : ℕ → ℕ → ℕ
bucket_of hash buckets = (hash % 2 ^ 64) * buckets / 2 ^ 64

-- is the row at an index in the bucket
abbrev pub in_bucket : (ℕ → ℕ) → ℕ → ℕ → ℕ → Bool
in_bucket hashes buckets bucket index = bucket_of (hashes index) buckets == bucket

-- each head tells the last row of its bucket
abbrev pub IsHeaded : (ℕ → ℕ) → List ℕ → ℕ → Type 0
IsHeaded hashes heads used =
    (bucket : ℕ) → bucket < length heads → slice_index heads bucket ≡ latest (in_bucket hashes (length heads) bucket) used

-- each link tells the row before in its bucket
abbrev pub IsLinked : (ℕ → ℕ) → (ℕ → ℕ) → ℕ → ℕ → Type 0
IsLinked hashes links buckets used =
    (index : ℕ) → index < used → links index ≡ latest (in_bucket hashes buckets (bucket_of (hashes index) buckets)) index

-- no row before a row has its key
abbrev pub IsDistinct : {K V : Type 0} → (K → K → Bool) → List (Row K V) → ℕ → Type 0
IsDistinct eq rows used =
    (index : ℕ) → index < used → latest (λ before. part_at (λ row. has_key eq rows row.key before) false rows index) index ≡ 0

-- what is true of the chains, with the laws on which a walk along one rests
pub record ChainFacts {K V : Type 0} (hash : K → ℕ) (eq : K → K → Bool) (rows : List (Row K V)) (links heads : List ℕ) (used : ℕ) : Type 0 where
  pub headed : IsHeaded (hash_at hash rows) heads used
  pub linked : IsLinked (hash_at hash rows) (slice_index links) (length heads) used
  pub distinct : IsDistinct eq rows used
  pub laws : IsEquivalence eq
  pub respects_eq : (x y : K) → IsTrue (eq x y) → hash x ≡ hash y

-- the facts of the chains as one, which proofs take as a whole
unfoldable pub IsChained : {K V : Type 0} → (K → ℕ) → (K → K → Bool) → List (Row K V) → List ℕ → List ℕ → ℕ → Type 0
IsChained hash eq rows links heads used = ChainFacts hash eq rows links heads used

-- what is true of a table's fields
pub record IsSound {K V : Type 0} (hash : K → ℕ) (eq : K → K → Bool) (rows : List (Row K V)) (links heads : List ℕ) (used : ℕ) : Type 0 where
  pub within : used ≤ length rows
  pub few : length rows < 2 ^ 32
  pub room_for_links : length rows ≤ length links
  pub some_bucket : 0 < length rows → 0 < length heads
  pub chained : IsChained hash eq rows links heads used
