-- The modules that see are listed in the order of their numbers, each once.
use Rattle.std.proofs.Common.{◌≡◌, ℕ, ◌<◌, Bool, true, false, cond, List, [], ◌∷◌, length, get_or, sym, ap, refl, ◌∙◌, inl, inr, arith}
use Rattle.std.specs.List.{filter, AllPairs, Contains}
use Rattle.std.proofs.lemmas.Bool.{true≢false}
use Rattle.std.proofs.lemmas.List.Elements.{All-nil, All-cons, All-contains, All-filter, All-from_get_or, Contains-append_right, Contains-append_cases, filter_passes}
use Rattle.std.proofs.lemmas.List.FromFn.{length-map-range_with_len, get_or-map-range_with_len}
use Rattle.std.proofs.lemmas.List.Kept.{AllPairs-filter}
use Rattle.hir_def.specs.declared.ModuleId.{ModuleId}
use Rattle.entries.specs.declared.visibility.Visibility.{Visibility}
use Rattle.nameres.specs.Shapes.{Shape, Rules, ModuleIn}
use Rattle.entries.specs.Visibilities.{visible}
use Rattle.entries.specs.Viewers.{all_modules, ListsViewers}
use Rattle.entries.proofs.Visible.{visible_decides}

-- what is in a list and passes a test is in what the test keeps
passed : {X : Type 0} (p : X → Bool) (xs : List X) (x : X) → p x ≡ true → Contains xs x → Contains (filter p xs) x
passed p [] x e c = c
passed {X} p (y ∷ ys) x e c = by (passed p ys x e) (p y) refl
  where
    here : Contains (y ∷ []) x → y ≡ x
    here c = All-contains (λ z. y ≡ z) (y ∷ []) x (All-cons (λ z. y ≡ z) y [] refl (All-nil _)) c

    by : (Contains ys x → Contains (filter p ys) x) → (b : Bool) → p y ≡ b → Contains (cond b (y ∷ filter p ys) (filter p ys)) x
    by later true t =
        elim (Contains-append_cases (y ∷ []) ys x c) [
          | inl h ↦ (0, omega arith, here h)
          | inr h ↦ Contains-append_right (y ∷ []) (filter p ys) x (later h)
        ]
    by later false t =
        elim (Contains-append_cases (y ∷ []) ys x c) [
          | inl h ↦ absurd (true≢false (sym e ∙ sym (ap p (here h)) ∙ t))
          | inr h ↦ later h
        ]

module _ (t : Shape) where
  numbered : (i : ℕ) (d : ModuleId) → i < t.modules → get_or (all_modules t) i d ≡ record { 0 = i }
  numbered i d h = get_or-map-range_with_len (λ n. record { 0 = n }) 0 t.modules i i d h (omega arith)

  many : length (all_modules t) ≡ t.modules
  many = length-map-range_with_len (λ n. record { 0 = n }) 0 t.modules

  listed : (m : ModuleId) → ModuleIn t m → Contains (all_modules t) m
  listed m h = (m.0, rw many h, numbered m.0 m h)

  rising : AllPairs (λ (a b : ModuleId). a.0 < b.0) (all_modules t)
  rising i j d l h =
      let k : j < t.modules = rw (← many) h in
      let k' : i < t.modules = omega arith in
      rw (numbered i d k', numbered j d k) l

  pub lists : (rank : ModuleId → ℕ) → Rules t rank → (v : Visibility) → ListsViewers t v (filter (λ m. visible t m v) (all_modules t))
  lists rank r v = record {
    each = λ m. (
      λ c. (
        All-contains (ModuleIn t) _ m (All-filter (λ x. visible t x v) (ModuleIn t) (all_modules t) (All-from_get_or (ModuleIn t) (all_modules t) m (λ i h. let k : i < t.modules = rw (← many) h in rw (numbered i m k) k))) c,
        (visible_decides t rank r m v).0 (All-contains (λ x. visible t x v ≡ true) _ m (filter_passes (λ x. visible t x v) (all_modules t)) c),
      ),
      λ s. passed (λ x. visible t x v) (all_modules t) m ((visible_decides t rank r m v).1 s.1) (listed m s.0),
    );
    rising = AllPairs-filter (λ a b. a.0 < b.0) (λ m. visible t m v) (all_modules t) rising;
  }
