-- Chains without a row: every head is 0.
use Rattle.std.proofs.Common.{◌≡◌, ℕ, zero, suc, ◌<◌, ◌≤◌, ◌^◌, Bool, IsTrue, List, length, replicate, get_or, refl, arith}
use Rattle.std.proofs.lemmas.List.{length-replicate}
use Rattle.std.specs.Cmp.{IsEquivalence}
use Rattle.keyed.specs.declared.row.Row.{Row}
use Rattle.keyed.specs.Chains.{IsChained, IsSound}

all_zero : (n k : ℕ) → get_or (replicate n (zero)) k zero ≡ zero
all_zero zero k = refl
all_zero (suc n) zero = refl
all_zero (suc n) (suc k) = all_zero n k

module _ {K V : Type 0} (hash : K → ℕ) (eq : K → K → Bool) (laws : IsEquivalence eq) (respects : (x y : K) → IsTrue (eq x y) → hash x ≡ hash y) where
  chained : (rows : List (Row K V)) (links : List ℕ) (n : ℕ) → IsChained hash eq rows links (replicate n 0) 0
  unfolding IsChained
  chained rows links n = record {
    headed = λ b l. all_zero n b;
    linked = λ j l. absurd (omega arith);
    distinct = λ j l. absurd (omega arith);
    laws = laws;
    respects_eq = respects;
  }

  pub fresh : (rows : List (Row K V)) (links heads : List ℕ) (n : ℕ) → length rows < 2 ^ 32 → length rows ≤ length links → (0 < length rows → 0 < n) → heads ≡ replicate n 0 → IsSound hash eq rows links heads 0
  fresh rows links heads n few fit some zeros = record {
    within = omega arith;
    few = few;
    room_for_links = fit;
    some_bucket = λ l. let k : 0 < n = some l in rw zeros (rw (length-replicate {A = ℕ} n 0) k);
    chained = rw zeros (chained rows links n);
  }
