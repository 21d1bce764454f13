-- The four steps shadow as the Reference says.
use Rattle.std.proofs.Common.{◌≡◌, zero, suc, Bool, true, false, if◌then◌else◌, not, ◌&&◌, ◌⊎◌, ◌↔◌, List, [], ◌∷◌, find, Some, sym, refl, ap, subst, inl, inr, arith, ◌∙◌}
use Rattle.std.specs.List.{Any, Contains}
use Rattle.std.proofs.lemmas.Bool.{false≢true}
use Rattle.item_scope.specs.declared.place.Place.{Place}
use Rattle.item_scope.specs.declared.place.Place.TheVariants.{Empty, ByGlob, ByName}
use Rattle.item_scope.specs.Places.{Tests, is_empty, is_by_glob, is_by_name, stepped, replayed}
use Rattle.item_scope.specs.Shadowing.{Shadows}

any-none : {T : Type 0} {P : T → Type 0} → Any P [] → ⊥
any-none (k, x, l, e, p) = omega arith

any-here : {T : Type 0} {P : T → Type 0} (n : T) (ns : List T) → P n → Any P (n ∷ ns)
any-here n ns p = (0, n, omega arith, refl, p)

any-more : {T : Type 0} {P : T → Type 0} (n : T) (ns : List T) → Any P ns → Any P (n ∷ ns)
any-more n ns (k, x, l, e, p) = (suc k, x, omega arith, e, p)

any-cons : {T : Type 0} (P : T → Type 0) (n : T) (ns : List T) → Any P (n ∷ ns) → P n ⊎ Any P ns
any-cons P n ns (zero, x, l, e, p) = inl (subst P (sym e) p)
any-cons P n ns (suc k, x, l, e, p) = inr (k, x, omega arith, e, p)

contains-more : {T : Type 0} (n : T) (ns : List T) (e : T) → Contains ns e → Contains (n ∷ ns) e
contains-more n ns e (k, l, h) = (suc k, omega arith, h)

module _ {T : Type 0} where
  -- the place after a step, by what the tests answer
  abbrev placed : Place T → T → Bool → Bool → Place T
  placed Empty n glob r = if glob then ByGlob n else ByName n
  placed (ByGlob o) n glob r = if not glob then (if glob then ByGlob n else ByName n) else ByGlob o
  placed (ByName o) n glob r = if not glob && r then (if glob then ByGlob n else ByName n) else ByName o

  named-at : (p : Place T) (n : T) (glob r : Bool) → (is_by_name (placed p n glob r) ≡ true) ↔ ((is_by_name p ≡ true) ⊎ (glob ≡ false))
  named-at Empty n true r = (λ h. inl h, λ s. elim s [ inl e ↦ e | inr e ↦ sym e ])
  named-at Empty n false r = (λ h. inr refl, λ s. refl)
  named-at (ByGlob o) n true r = (λ h. inl h, λ s. elim s [ inl e ↦ e | inr e ↦ sym e ])
  named-at (ByGlob o) n false r = (λ h. inr refl, λ s. refl)
  named-at (ByName o) n true r = (λ h. inl refl, λ s. refl)
  named-at (ByName o) n false true = (λ h. inl refl, λ s. refl)
  named-at (ByName o) n false false = (λ h. inl refl, λ s. refl)

  filled-at : (p : Place T) (n : T) (glob r : Bool) → is_empty (placed p n glob r) ≡ false
  filled-at Empty n true r = refl
  filled-at Empty n false r = refl
  filled-at (ByGlob o) n true r = refl
  filled-at (ByGlob o) n false r = refl
  filled-at (ByName o) n true r = refl
  filled-at (ByName o) n false true = refl
  filled-at (ByName o) n false false = refl

  holder-at : (p : Place T) (n : T) (glob r : Bool) (e : T) → placed p n glob r ≡ ByName e → (p ≡ ByName e) ⊎ ((n ≡ e) × (glob ≡ false))
  holder-at Empty n true r e h = absurd (cc)
  holder-at Empty n false r e h = inr (cc, refl)
  holder-at (ByGlob o) n true r e h = absurd (cc)
  holder-at (ByGlob o) n false r e h = inr (cc, refl)
  holder-at (ByName o) n true r e h = inl h
  holder-at (ByName o) n false true e h = inr (cc, refl)
  holder-at (ByName o) n false false e h = inl h

  glob_holder-at : (p : Place T) (n : T) (glob r : Bool) (e : T) → placed p n glob r ≡ ByGlob e → (p ≡ ByGlob e) ⊎ ((p ≡ Empty) × (n ≡ e) × (glob ≡ true))
  glob_holder-at Empty n true r e h = inr (refl, cc, refl)
  glob_holder-at Empty n false r e h = absurd (cc)
  glob_holder-at (ByGlob o) n true r e h = inl h
  glob_holder-at (ByGlob o) n false r e h = absurd (cc)
  glob_holder-at (ByName o) n true r e h = absurd (cc)
  glob_holder-at (ByName o) n false true e h = absurd (cc)
  glob_holder-at (ByName o) n false false e h = absurd (cc)

  -- a place that is held is held by a glob or by name
  globbed-at : (p : Place T) → (is_by_glob p ≡ true) ↔ ((is_empty p ≡ false) × (is_by_name p ≡ false))
  globbed-at Empty = (λ h. absurd (false≢true h), λ s. sym s.0)
  globbed-at (ByGlob o) = (λ h. (refl, refl), λ s. refl)
  globbed-at (ByName o) = (λ h. absurd (false≢true h), λ s. sym s.1)

module _ {T : Type 0} (t : Tests T) where
  abbrev again : Place T → T → Bool
  again Empty n = false
  again (ByGlob o) n = false
  again (ByName o) n = t.reresolved o n

  placed-so : (p : Place T) (n : T) → (stepped t p n).place ≡ placed p n (t.glob n) (again p n)
  placed-so Empty n = refl
  placed-so (ByGlob o) n = refl
  placed-so (ByName o) n = refl

  abbrev Named : T → Type 0
  Named e = t.glob e ≡ false

  step : (p : Place T) (n : T) → (is_by_name (stepped t p n).place ≡ true) ↔ ((is_by_name p ≡ true) ⊎ Named n)
  step p n = subst (λ q. (is_by_name q ≡ true) ↔ ((is_by_name p ≡ true) ⊎ Named n)) (sym (placed-so p n)) (named-at p n (t.glob n) (again p n))

  named : (p : Place T) (ns : List T) → (is_by_name (replayed t p ns) ≡ true) ↔ ((is_by_name p ≡ true) ⊎ Any Named ns)
  named p [] = (λ h. inl h, λ s. elim s [ inl e ↦ e | inr a ↦ absurd (any-none a) ])
  named p (n ∷ ns) =
      let rest = named (stepped t p n).place ns in (
        λ h. elim (rest.0 h) [
          | inl e ↦ elim ((step p n).0 e) [ inl a ↦ inl a | inr b ↦ inr (any-here n ns b) ]
          | inr a ↦ inr (any-more n ns a)
        ],
        λ s. elim s [
          | inl e ↦ rest.1 (inl ((step p n).1 (inl e)))
          | inr a ↦ elim (any-cons Named n ns a) [ inl b ↦ rest.1 (inl ((step p n).1 (inr b))) | inr b ↦ rest.1 (inr b) ]
        ],
      )

  filled : (p : Place T) (n : T) → is_empty (stepped t p n).place ≡ false
  filled p n = subst (λ q. is_empty q ≡ false) (sym (placed-so p n)) (filled-at p n (t.glob n) (again p n))

  -- not empty in the end, exactly if not so at first or an entry came
  stays : (p : Place T) (ns : List T) → is_empty p ≡ false → is_empty (replayed t p ns) ≡ false
  stays p [] e = e
  stays p (n ∷ ns) e = stays (stepped t p n).place ns (filled p n)

  empty-so : (p : Place T) (ns : List T) → (is_empty (replayed t p ns) ≡ false) ↔ ((is_empty p ≡ false) ⊎ (ns ≡ [] → ⊥))
  empty-so p [] = (λ h. inl h, λ s. elim s [ inl e ↦ e | inr f ↦ absurd (f refl) ])
  empty-so p (n ∷ ns) = (λ h. inr (λ e. cc), λ s. stays (stepped t p n).place ns (filled p n))

  holder : (p : Place T) (ns : List T) (e : T) → replayed t p ns ≡ ByName e → (p ≡ ByName e) ⊎ (Contains ns e × Named e)
  holder p [] e h = inl h
  holder p (n ∷ ns) e h =
      elim (holder (stepped t p n).place ns e h) [
        | inl q ↦ elim (holder-at p n (t.glob n) (again p n) e (sym (placed-so p n) ∙ q)) [
          | inl a ↦ inl a
          | inr b ↦ inr ((0, omega arith, b.0), subst Named b.0 b.1)
        ]
        | inr b ↦ inr (contains-more n ns e b.0, b.1)
      ]

  first : (n e : T) (ns : List T) → n ≡ e → t.glob n ≡ true → find t.glob (n ∷ ns) ≡ Some e
  first n e ns h g = rw g (ap Some h)

  glob_holder : (p : Place T) (ns : List T) (e : T) → replayed t p ns ≡ ByGlob e → (p ≡ ByGlob e) ⊎ ((p ≡ Empty) × (find t.glob ns ≡ Some e))
  glob_holder p [] e h = inl h
  glob_holder p (n ∷ ns) e h =
      elim (glob_holder (stepped t p n).place ns e h) [
        | inl q ↦ elim (glob_holder-at p n (t.glob n) (again p n) e (sym (placed-so p n) ∙ q)) [
          | inl a ↦ inl a
          | inr b ↦ inr (b.0, first n e ns b.1 b.2)
        ]
        -- no place is empty after a step
        | inr b ↦ absurd (false≢true (sym (filled p n) ∙ ap is_empty b.0))
      ]

  pub shadows : (p : Place T) (ns : List T) → Shadows t.glob p ns (replayed t p ns)
  shadows p ns = record {
    named = named p ns;
    globbed = (
      λ h. let g = (globbed-at (replayed t p ns)).0 h in ((empty-so p ns).0 g.0, g.1),
      λ s. (globbed-at (replayed t p ns)).1 ((empty-so p ns).1 s.0, s.1),
    );
    holder = holder p ns;
    glob_holder = glob_holder p ns;
  }
