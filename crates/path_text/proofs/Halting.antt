-- Where a text halts: when it is refused at a place, and what a longer text inherits from its rest.
use Rattle.std.proofs.Common.{◌≡◌, ℕ, zero, suc, ◌+◌, ◌-◌, ◌<◌, ◌≤◌, ◌⊎◌, List, [], ◌∷◌, ◌++◌, length, take, drop, sym, refl, ap, ◌∙◌, subst, inl, inr, append_assoc, arith, length-append}
use Rattle.std.proofs.lemmas.Bool.{cases_lt}
use Rattle.path_text.specs.Places.{Begins, Barred, Dead, Halts, RefusedAt}

-- parts of texts
pub take_past : (x r : List ℕ) (k : ℕ) → take (length x + k) (x ++ r) ≡ x ++ take k r
take_past [] r k = ap (λ n. take n r) (let e : 0 + k ≡ k = omega arith in e)
take_past (b ∷ x) r k = ap (λ n. take n (b ∷ (x ++ r))) (let e : suc (length x) + k ≡ suc (length x + k) = omega arith in e) ∙ ap (λ (l : List ℕ). b ∷ l) (take_past x r k)

pub drop_past : (x r : List ℕ) (k : ℕ) → drop (length x + k) (x ++ r) ≡ drop k r
drop_past [] r k = ap (λ n. drop n r) (let e : 0 + k ≡ k = omega arith in e)
drop_past (b ∷ x) r k = ap (λ n. drop n (b ∷ (x ++ r))) (let e : suc (length x) + k ≡ suc (length x + k) = omega arith in e) ∙ drop_past x r k

-- a longer front begins with a shorter one
take-longer : (bs : List ℕ) (i e : ℕ) → i ≤ e → (more : List ℕ) × (take e bs ≡ take i bs ++ more)
take-longer bs zero e h = (take e bs, refl)
take-longer [] (suc i) zero h = ([], refl)
take-longer [] (suc i) (suc e) h = ([], refl)
take-longer (b ∷ bs) (suc i) zero h = absurd (omega arith)
take-longer (b ∷ bs) (suc i) (suc e) h = let r = take-longer bs i e (omega arith) in (r.0, ap (λ (l : List ℕ). b ∷ l) r.1)

-- why a text halts at e
abbrev pub Why : (List ℕ → Type 0) → List ℕ → ℕ → Type 0
Why L bs e = (e ≡ length bs) ⊎ (Dead L bs e ⊎ Barred L bs e)

-- a text that halts at e, and below e at no keyword, is refused at e
module _ (L : List ℕ → Type 0) (bs : List ℕ) (e : ℕ) where
  pub shorter : Begins L bs e → (i : ℕ) → i ≤ e → Begins L bs i
  shorter b i h =
      let r = take-longer bs i e h in
      (r.0 ++ b.0, subst L (ap (λ (t : List ℕ). t ++ b.0) r.1 ∙ append_assoc (take i bs) r.0 b.0) b.1)

  pub refuse : (L bs → ⊥) → Begins L bs e → Why L bs e → e ≤ length bs → ((i : ℕ) → i < e → Barred L bs i → ⊥) → RefusedAt L bs e
  refuse none b w h solid = record { no-path = none; halts = (b, w); first = first }
    where
      first : (i : ℕ) → i < e → Halts L bs i → ⊥
      first i l (a, inl z) = omega arith
      first i l (a, inr (inl d)) = let s = shorter b (suc i) (omega arith) in d.1 s.0 s.1
      first i l (a, inr (inr d)) = solid i l d

-- a keyword that cannot stand, seen in another text
moved : (L M : List ℕ → Type 0) (bs q : List ℕ) (i j : ℕ) → drop j q ≡ drop i bs → ((v more : List ℕ) → M (take j q ++ v ++ more) → L (take i bs ++ v ++ more)) → Barred L bs i → Barred M q j
moved L M bs q i j e to d = record { word = d.word; rest = d.rest; keyword = d.keyword; here = e ∙ d.here; whole = d.whole; nowhere = λ more n m. d.nowhere more n (to d.word more m) }

-- what is refused after a front p that holds no keyword
module _ (L M : List ℕ → Type 0) (p q : List ℕ) (to : (x : List ℕ) → M x → L (p ++ x)) (back : (x : List ℕ) → L (p ++ x) → M x) where
  taken : (k : ℕ) (more : List ℕ) → take (length p + k) (p ++ q) ++ more ≡ p ++ (take k q ++ more)
  taken k more = ap (λ (t : List ℕ). t ++ more) (take_past p q k) ∙ append_assoc p (take k q) more

  taken-word : (k : ℕ) (v more : List ℕ) → take (length p + k) (p ++ q) ++ v ++ more ≡ p ++ (take k q ++ v ++ more)
  taken-word k v more = ap (λ (t : List ℕ). t ++ more) (taken k v) ∙ append_assoc p (take k q ++ v) more

  why-past : (e : ℕ) → Why M q e → Why L (p ++ q) (length p + e)
  why-past e (inl z) = inl (ap (λ n. length p + n) z ∙ sym (length-append p q))
  why-past e (inr (inl d)) =
      let h = d.0 in
      let z : suc (length p + e) ≡ length p + suc e = omega arith in
      inr (inl (omega (arith, length-append p q), λ more l. d.1 more (back _ (subst L (ap (λ n. take n (p ++ q) ++ more) z ∙ taken (suc e) more) l))))
  why-past e (inr (inr d)) = inr (inr (moved M L q (p ++ q) e (length p + e) (drop_past p q e) (λ v more l. back _ (subst L (taken-word e v more) l)) d))

  pub shift : (e : ℕ) → e ≤ length q → ((i : ℕ) → i < length p → Barred L (p ++ q) i → ⊥) → RefusedAt M q e → RefusedAt L (p ++ q) (length p + e)
  shift e h solid r =
      refuse L (p ++ q) (length p + e) (λ l. r.no-path (back q l))
      (let b = r.halts.0 in (b.0, subst L (sym (taken e b.0)) (to _ b.1)))
      (why-past e r.halts.1) (omega (arith, length-append p q))
      (λ i l d. elim (cases_lt i (length p)) [
        | inl s ↦ solid i s d
        | inr s ↦
            let j = i - length p in
            let z : i ≡ length p + j = omega arith in
            let barred = moved L M (p ++ q) q (length p + j) j (sym (drop_past p q j)) (λ v more m. subst L (sym (taken-word j v more)) (to _ m)) (subst (Barred L (p ++ q)) z d) in
            r.first j (omega arith) (shorter M q e r.halts.0 j (omega arith), inr (inr barred))
      ])
