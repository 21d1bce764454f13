-- The last number below a bound that passes a test.
use Rattle.std.proofs.Common.{◌≡◌, ℕ, zero, suc, ◌<◌, ◌≤◌, Bool, true, false, cond, sym, refl, ◌∙◌, inl, inr, arith}
use Rattle.std.proofs.lemmas.Bool.{cond-false, cases_lt}
use Rattle.keyed.specs.Chains.{latest}

contra : (a b : Bool) → (b ≡ true → a ≡ true) → a ≡ false → b ≡ false
contra a true h e = sym (h refl) ∙ e
contra a false h e = refl

-- what fails p fails q: so the last that passes q is the last one below the last that passes p
pub latest-latest : (p q : ℕ → Bool) → ((j : ℕ) → q j ≡ true → p j ≡ true) → (n : ℕ) → latest q n ≡ latest q (latest p n)
latest-latest p q h zero = refl
latest-latest p q h (suc j) =
    let P : Bool → Type 0 = λ v. p j ≡ v → latest q (suc j) ≡ latest q (cond v (suc j) (latest p j)) in
    elim (p j) as P [
      | true ↦ λ e. refl
      | false ↦ λ e. cond-false (q j) (suc j) (latest q j) (contra (p j) (q j) (h j) e) ∙ latest-latest p q h j
    ] refl

pub latest-le : (p : ℕ → Bool) (n : ℕ) → latest p n ≤ n
latest-le p zero = omega arith
latest-le p (suc j) =
    let k = latest-le p j in
    elim (p j) as (λ v. cond v (suc j) (latest p j) ≤ suc j) [ true ↦ omega arith | false ↦ omega arith ]

-- the number one below passes, if there is one
abbrev pub is_end_or : (ℕ → Bool) → ℕ → Bool
is_end_or p zero = true
is_end_or p (suc j) = p j

pub latest-passes : (p : ℕ → Bool) (n : ℕ) → is_end_or p (latest p n) ≡ true
latest-passes p zero = refl
latest-passes p (suc j) =
    let P : Bool → Type 0 = λ v. p j ≡ v → is_end_or p (cond v (suc j) (latest p j)) ≡ true in
    elim (p j) as P [ true ↦ λ e. e | false ↦ λ e. latest-passes p j ] refl

pub latest-same : (p q : ℕ → Bool) (n : ℕ) → ((j : ℕ) → j < n → p j ≡ q j) → latest p n ≡ latest q n
latest-same p q zero h = refl
latest-same p q (suc j) h =
    let e : p j ≡ q j = h j (omega arith) in
    let k : latest p j ≡ latest q j = latest-same p q j (λ i l. h i (omega arith)) in
    rw (e, k)

pub none-latest : (p : ℕ → Bool) (n : ℕ) → latest p n ≡ 0 → (j : ℕ) → j < n → p j ≡ false
none-latest p zero e j l = absurd (omega arith)
none-latest p (suc i) e j l =
    let P : Bool → Type 0 = λ v. p i ≡ v → cond v (suc i) (latest p i) ≡ 0 → p j ≡ false in
    elim (p i) as P [
      | true ↦ λ t z. absurd (omega arith)
      | false ↦ λ f z. elim (cases_lt j i) [ inl k ↦ none-latest p i z j k | inr k ↦ let s : j ≡ i = omega arith in rw s f ]
    ] refl e

pub latest-false : (n : ℕ) → latest (λ _. false) n ≡ 0
latest-false zero = refl
latest-false (suc n) = latest-false n
