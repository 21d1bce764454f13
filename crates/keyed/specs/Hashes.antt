-- The hash of a key, as the hasher that was handed in makes it.
use Rattle.std.specs.Prelude.{◌≡◌, ℕ, Bool, IsTrue, List, fold}
use Rattle.std.specs.declared.hash.Hasher as hasher
use Rattle.std.specs.declared.hash.BuildHasher as builder
use Rattle.std.proofs.Common.{ap}

-- what a fresh hasher answers after a key's writes
unfoldable pub key_hash : {K S H : Type 0} → builder.Ghosts S H → hasher.Ghosts H → S → (K → List (List ℕ)) → K → ℕ
key_hash build hash s writes key = hash.finish (fold hash.write (build.build_hasher s) (writes key))

-- equal keys have one hash
pub key_hash-respects : {K S H : Type 0} (build : builder.Ghosts S H) (hash : hasher.Ghosts H) (s : S) (writes : K → List (List ℕ)) (eq : K → K → Bool) → ((x y : K) → IsTrue (eq x y) → writes x ≡ writes y)
    → (x y : K) → IsTrue (eq x y) → key_hash build hash s writes x ≡ key_hash build hash s writes y
unfolding key_hash
key_hash-respects build hash s writes eq law x y e = ap (λ w. hash.finish (fold hash.write (build.build_hasher s) w)) (law x y e)
