-- A hash has one of the buckets.
use Rattle.std.proofs.Common.{ℕ, ◌*◌, ◌%◌, ◌^◌, ◌<◌, mod-lt, lit<, arith}
use Rattle.std.proofs.Math.Nat.{div-lt_iff_lt-mul, mul-lt-mul_of_pos_right}
use Rattle.keyed.specs.Chains.{bucket_of}

pub bucket_of_lt : (hash buckets : ℕ) → 0 < buckets → bucket_of hash buckets < buckets
unfolding bucket_of
bucket_of_lt hash buckets some =
    let small : hash % 2 ^ 64 < 2 ^ 64 = mod-lt hash (lit< tt) in
    let few : hash % 2 ^ 64 * buckets < 2 ^ 64 * buckets = mul-lt-mul_of_pos_right small some in
    let swapped : hash % 2 ^ 64 * buckets < buckets * 2 ^ 64 = omega arith in
    (div-lt_iff_lt-mul (lit< tt)).1 swapped
