-- By the four steps what holds a place by name gives way only to the same import's later word.
use Rattle.std.proofs.Common.{◌≡◌, suc, Bool, true, false, if◌then◌else◌, not, ◌&&◌, ◌⊎◌, ◌↔◌, List, [], ◌∷◌, ◌++◌, slice_index_or, Option, Some, None, sym, refl, ap, subst, inl, inr, arith, ◌∙◌}
use Rattle.std.specs.List.{All}
use Rattle.std.proofs.lemmas.Bool.{false≢true}
use Rattle.std.proofs.lemmas.List.Sums.{fold-append}
use Rattle.entries.specs.declared.per_ns.Item.{Item}
use Rattle.entries.specs.Entries.{Both, both_equal}
use Rattle.item_scope.specs.declared.place.Place.{Place}
use Rattle.item_scope.specs.declared.place.Place.TheVariants.{Empty, ByGlob, ByName}
use Rattle.item_scope.specs.Globs.{by_glob}
use Rattle.item_scope.specs.Holding.{NoOther, HeldBy, KeepsNames}
use Rattle.item_scope.specs.Places.{Tests, tests, is_by_name, stepped, replayed}
use Rattle.item_scope.proofs.Shadowed.{shadows}

module _ {D M : Type 0} where
  none-first : (e n : Item D M) (ns : List (Item D M)) → NoOther e (n ∷ ns) → Both e.import n.import → n.def ≡ e.def
  none-first e n ns alike both = alike 0 n (omega arith) both

  none-rest : (e n : Item D M) (ns : List (Item D M)) → NoOther e (n ∷ ns) → NoOther e ns
  none-rest e n ns alike = λ k d l. alike (suc k) d (omega (arith, l))

module _ {D M : Type 0} (same_def : D → D → Bool) (glob : M → Bool) (same_import : M → M → Bool)
    (def-law : (a b : D) → (same_def a b ≡ true) ↔ (a ≡ b)) (import-law : (a b : M) → (same_import a b ≡ true) ↔ (a ≡ b)) where
  abbrev t : Tests (Item D M)
  t = tests same_def glob same_import

  both-so : (o q : Option M) → (both_equal same_import o q ≡ true) ↔ Both o q
  both-so None q = (λ h. absurd (false≢true h), λ b. absurd b)
  both-so (Some a) None = (λ h. absurd (false≢true h), λ b. absurd (cc))
  both-so (Some a) (Some b) = (λ h. ap Some (sym ((import-law a b).0 h)), λ s. (import-law a b).1 (cc))

  both-same : (o q : Option M) → Both o q → q ≡ o
  both-same None q b = absurd b
  both-same (Some a) q b = b

  -- an entry that came to what e holds: e stays, and where its import brought that by name it is no other def; or it is that import's, and takes the place
  abbrev After : Place (Item D M) → Item D M → Item D M → Type 0
  After q e n = ((q ≡ ByName e) × (Both e.import n.import → by_glob glob n.import ≡ false → n.def ≡ e.def)) ⊎ ((q ≡ ByName n) × Both e.import n.import × (n.def ≡ e.def → ⊥))

  one-so : (e n : Item D M) (g b s : Bool) → by_glob glob n.import ≡ g → both_equal same_import e.import n.import ≡ b → same_def e.def n.def ≡ s
      → After (if not g && (b && not s) then (if g then ByGlob n else ByName n) else ByName e) e n
  one-so e n true b s eg eb es = inl (refl, λ both named. absurd (false≢true (sym named ∙ eg)))
  one-so e n false false s eg eb es = inl (refl, λ both named. absurd (false≢true (sym eb ∙ (both-so e.import n.import).1 both)))
  one-so e n false true true eg eb es = inl (refl, λ both named. sym ((def-law e.def n.def).0 es))
  one-so e n false true false eg eb es = inr (refl, (both-so e.import n.import).0 eb, λ same. absurd (false≢true (sym es ∙ (def-law e.def n.def).1 (sym same))))

  one : (e n : Item D M) → After (stepped t (ByName e) n).place e n
  one e n = one-so e n _ _ _ refl refl refl

  -- what stands after one entry stands after the rest of them
  from : (P : Place (Item D M) → Type 0) (q : Place (Item D M)) (e : Item D M) (ns : List (Item D M)) → q ≡ ByName e → P (replayed t (ByName e) ns) → P (replayed t q ns)
  from P q e ns is h = subst (λ z. P (replayed t z ns)) (sym is) h

  abbrev Named : Item D M → Place (Item D M) → Type 0
  Named e q = (f : Item D M) × (q ≡ ByName f) × (f.import ≡ e.import)

  named : (e : Item D M) (ns : List (Item D M)) → Named e (replayed t (ByName e) ns)
  named e [] = (e, refl, refl)
  named e (n ∷ ns) =
      elim (one e n) [
        | inl a ↦ from (Named e) _ e ns a.0 (named e ns)
        | inr a ↦ let (f, is, same) = named n ns in from (Named e) _ n ns a.0 (f, is, same ∙ both-same e.import n.import a.1)
      ]

  stays : (e : Item D M) (ns : List (Item D M)) → NoOther e ns → replayed t (ByName e) ns ≡ ByName e
  stays e [] alike = refl
  stays e (n ∷ ns) alike =
      elim (one e n) [
        | inl a ↦ from (λ q. q ≡ ByName e) _ e ns a.0 (stays e ns (none-rest e n ns alike))
        | inr a ↦ absurd (a.2 (none-first e n ns alike a.1))
      ]

  declared : (e : Item D M) (ns : List (Item D M)) → e.import ≡ None → replayed t (ByName e) ns ≡ ByName e
  declared e ns none = stays e ns (λ k d l both. absurd (subst (λ o. Both o (slice_index_or ns k d).import) none both))

  same-holder : (e f : Item D M) → ByName e ≡ ByName f → e ≡ f
  same-holder e f h = cc

  moved : (g h : Item D M) (ys : List (Item D M)) → g.import ≡ h.import → g.def ≡ h.def → NoOther g ys → NoOther h ys
  moved g h ys i d alike = λ k z l both. alike k z l (subst (λ o. Both o (slice_index_or ys k z).import) (sym i) both) ∙ d

  latest : (e f g : Item D M) (xs ys : List (Item D M))
      → replayed t (ByName e) (xs ++ g ∷ ys) ≡ ByName f → Both e.import g.import → by_glob glob g.import ≡ false → NoOther g ys → f.def ≡ g.def
  latest e f g xs ys is both by-name alike =
      let (h, at, same) = named e xs in
      let split : replayed t (ByName e) (xs ++ g ∷ ys) ≡ replayed t (stepped t (ByName h) g).place ys =
      fold-append (λ p n. (stepped t p n).place) (ByName e) xs (g ∷ ys) ∙ ap (λ q. replayed t (stepped t q g).place ys) at in
      let both-h : Both h.import g.import = subst (λ o. Both o g.import) (sym same) both in
      elim (one h g) [
        | inl a ↦ let d : g.def ≡ h.def = a.1 both-h by-name in
            let end : replayed t (stepped t (ByName h) g).place ys ≡ ByName h = from (λ q. q ≡ ByName h) _ h ys a.0 (stays h ys (moved g h ys (both-same h.import g.import both-h) d alike)) in
            ap (λ (z : Item D M). z.def) (same-holder f h (sym is ∙ split ∙ end)) ∙ sym d
        | inr a ↦ let end : replayed t (stepped t (ByName h) g).place ys ≡ ByName g = from (λ q. q ≡ ByName g) _ g ys a.0 (stays g ys alike) in
            ap (λ (z : Item D M). z.def) (same-holder f g (sym is ∙ split ∙ end))
      ]

  held-by : (e : Item D M) (came : List (Item D M)) (after : Place (Item D M)) → replayed t (ByName e) came ≡ after → HeldBy t.glob e came after
  held-by e came after is = record {
    import = subst (Named e) is (named e came);
    declared = λ none. sym is ∙ declared e came none;
    stays = λ alike. sym is ∙ stays e came alike;
    latest = λ f g xs ys so split both by-name alike. latest e f g xs ys (ap (replayed t (ByName e)) (sym split) ∙ is ∙ so) both by-name alike;
  }

  -- what comes by name to a place that is not held by name
  taken-at : (q : Place (Item D M)) (e : Item D M) → is_by_name q ≡ false → by_glob glob e.import ≡ false → (stepped t q e).place ≡ ByName e
  taken-at Empty e free by-name = rw by-name refl
  taken-at (ByGlob o) e free by-name = rw by-name refl
  taken-at (ByName o) e free by-name = absurd (false≢true (sym free))

  free-at : (b : Bool) → (b ≡ true → ⊥) → b ≡ false
  free-at true f = absurd (f refl)
  free-at false f = refl

  globs-pass : (p : Place (Item D M)) (xs : List (Item D M)) → is_by_name p ≡ false → All (λ h. t.glob h ≡ true) xs → is_by_name (replayed t p xs) ≡ false
  globs-pass p xs free globs =
      free-at _ (λ is. elim ((shadows t p xs).named.0 is) [
        | inl a ↦ false≢true (sym free ∙ a)
        | inr (k, x, l, at, b) ↦ false≢true (sym b ∙ ap t.glob (sym at) ∙ globs k x l)
      ])

  first : (p : Place (Item D M)) (e : Item D M) (xs ys : List (Item D M))
      → is_by_name p ≡ false → All (λ h. t.glob h ≡ true) xs → t.glob e ≡ false → replayed t (ByName e) ys ≡ replayed t p (xs ++ e ∷ ys)
  first p e xs ys free globs by-name =
      ap (λ q. replayed t q ys) (sym (taken-at (replayed t p xs) e (globs-pass p xs free globs) by-name))
      ∙ sym (fold-append (λ q n. (stepped t q n).place) p xs (e ∷ ys))

  pub keeps-names : (p : Place (Item D M)) (ns : List (Item D M)) → KeepsNames t.glob p ns (replayed t p ns)
  keeps-names p ns = record {
    held = λ e is. held-by e ns _ (ap (λ q. replayed t q ns) (sym is));
    first = λ e xs ys free split globs by-name. held-by e ys _ (first p e xs ys free globs by-name ∙ ap (replayed t p) (sym split));
  }
