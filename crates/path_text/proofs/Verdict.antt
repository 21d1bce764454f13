-- Any text is words that can follow one another, or is refused at the first place at which it halts.
use Rattle.std.proofs.Common.{◌≡◌, ℕ, zero, suc, ◌+◌, ◌-◌, ◌<◌, ◌≤◌, true, false, List, [], ◌∷◌, ◌++◌, length, take, drop, Some, None, codes, Option, sym, refl, ap, ◌∙◌, subst, inl, inr, append_assoc, append-nil, arith, length-append, take-append-drop}
use lib.Seq.{take-append-le}
use Rattle.std.proofs.lemmas.List.{drop-append-le}
use Rattle.std.proofs.lemmas.Bool.{cases_lt, cases_eq, cases_Bool}
use Rattle.path_text.specs.declared.language.Before.{Before}
use Rattle.path_text.specs.declared.segment.WordKind.TheVariants.{Crate, Own, Super, Bare, Digits}
use Rattle.path_text.specs.declared.segment.WordKind.{WordKind}
use Rattle.path_text.specs.Bytes.{letter, inner}
use Rattle.path_text.specs.Grammar.{Inners, joined}
use Rattle.path_text.specs.Words.{NoInner}
use Rattle.path_text.specs.Places.{Keyword, crate, own, super, Begins, Barred, RefusedAt}
use Rattle.path_text.specs.Segments.{segments, word_of}
use Rattle.path_text.specs.Language.{stands, after, barred, stop}
use Rattle.path_text.proofs.Follow.{kinds, no, Stood, Follows, Line, filled, NoColon, barred-stop, last-stop, more-stop, odd-stop, half-stop, never, same-cut}
use Rattle.path_text.proofs.Halting.{Why, refuse, shift, take_past, drop_past}

-- a text in two: the word at its front, and the rest
pub record Cut (bs : List ℕ) : Type 0 where
  pub word : List ℕ
  pub rest : List ℕ
  pub text : bs ≡ word ++ rest
  pub inners : Inners word
  pub ended : NoInner rest

pub cut : (bs : List ℕ) → Cut bs
cut [] = record { word = []; rest = []; text = refl; inners = tt; ended = tt }
cut (b ∷ bs) =
    let r = cut bs in
    elim (cases_Bool (inner b)) [
      | inl e ↦ record { word = b ∷ r.word; rest = r.rest; text = ap (λ (t : List ℕ). b ∷ t) r.text; inners = (e, r.inners); ended = r.ended }
      | inr e ↦ record { word = []; rest = b ∷ bs; text = refl; inners = tt; ended = e }
    ]

-- the names `a` and `_a` can stand everywhere
name-a : (c : Before) → Stood c (97 ∷ [])
name-a c = record { word = (refl, tt); may = refl }

under-a : (c : Before) → Stood c (95 ∷ 97 ∷ [])
under-a c = record { word = (refl, (refl, tt)); may = refl }

pub alone : (c : Before) (w : List ℕ) → Stood c w → (w ≡ [] → ⊥) → Line c w
alone c w s e = record { words = w ∷ []; some = filled; follows = (s, (λ _. e), tt); text = sym (append-nil w) }

a-begins : (c : Before) (bs : List ℕ) → Begins (Line c) bs 0
a-begins c bs = (97 ∷ [], alone c (97 ∷ []) (name-a c) filled)

-- keywords
keyword-inners : {v : List ℕ} → Keyword v → Inners v
keyword-inners crate = (refl, (refl, (refl, (refl, (refl, tt)))))
keyword-inners own = (refl, (refl, (refl, (refl, tt))))
keyword-inners super = (refl, (refl, (refl, (refl, (refl, tt)))))

-- none begins with a colon or an underscore
not-first : {X : Type 0} {v : List ℕ} (b : ℕ) (x rest : List ℕ) → b < 97 → Keyword v → b ∷ x ≡ v ++ rest → X
not-first b x rest l crate e = let z : b ≡ 99 = cc in absurd (omega arith)
not-first b x rest l own e = let z : b ≡ 115 = cc in absurd (omega arith)
not-first b x rest l super e = let z : b ≡ 115 = cc in absurd (omega arith)

-- one that ends where a word that can stand ends is passed
in-word : (c : Before) (w x : List ℕ) (i : ℕ) → Stood c w → NoInner x → i < length w → Barred (Line c) (w ++ x) i → ⊥
in-word c w x i s h l d =
    let le : i ≤ length w = omega arith in
    let same : drop i w ≡ d.word = (same-cut (drop i w) d.word x d.rest (inners-drop w i s.word) (keyword-inners d.keyword) h d.whole (sym (drop-append-le i w x le) ∙ d.here)).0 in
    let all : take i (w ++ x) ++ d.word ≡ w = ap (λ (t : List ℕ). t ++ d.word) (take-append-le i w x le) ∙ ap (λ (t : List ℕ). take i w ++ t) (sym same) ∙ take-append-drop i w in
    d.nowhere [] tt (subst (Line c) (sym (append-nil (take i (w ++ x) ++ d.word) ∙ all)) (alone c w s (λ e. let z : length w ≡ 0 = ap length e in omega arith)))
  where
    inners-drop : (w : List ℕ) (i : ℕ) → Inners w → Inners (drop i w)
    inners-drop w zero h = h
    inners-drop [] (suc i) h = tt
    inners-drop (b ∷ u) (suc i) h = inners-drop u i h.1

-- a refusal that is counted from n
pub record Refusal (c : Before) (bs : List ℕ) (n p : ℕ) : Type 0 where
  pub at : ℕ
  pub is : p ≡ n + at
  pub inside : at ≤ length bs
  pub refused : RefusedAt (Line c) bs at

abbrev pub Verdict : Before → List ℕ → ℕ → Option ℕ → Type 0
Verdict c bs n None = Line c bs
Verdict c bs n (Some p) = Refusal c bs n p

-- a digit begins no word
digit-kind : (b : ℕ) (u : List ℕ) → letter b ≡ false → word_of (b ∷ u) ≡ Digits
digit-kind b u l =
    kinds b u (λ k. k ≡ Digits) (λ e. let z : b ≡ 99 = cc in is 99 refl z) (λ e. let z : b ≡ 115 = cc in is 115 refl z) (λ e. let z : b ≡ 115 = cc in is 115 refl z) (λ e. let z : b ≡ 95 = cc in is 95 refl z) (λ f t. no (sym l ∙ t)) (λ f. refl)
  where
    is : {X : Type 0} (x : ℕ) → letter x ≡ true → b ≡ x → X
    is x t z = no (sym l ∙ ap letter z ∙ t)

module _ (c : Before) (n : ℕ) where
  -- refused after the first e bytes
  refused-at : (bs : List ℕ) (e p : ℕ) → p ≡ n + e → stop c (segments n bs) ≡ Some p → Begins (Line c) bs e → Why (Line c) bs e → e ≤ length bs → ((i : ℕ) → i < e → Barred (Line c) bs i → ⊥) → Refusal c bs n p
  refused-at bs e p is stops b w inside solid = record { at = e; is = is; inside = inside; refused = refuse (Line c) bs e (never c bs n p stops) b w inside solid }

  at-once : (bs : List ℕ) → stop c (segments n bs) ≡ Some n → Why (Line c) bs 0 → Refusal c bs n n
  at-once bs e w = refused-at bs 0 n (let z : n ≡ n + 0 = omega arith in z) e (a-begins c bs) w (omega arith) (λ i l. absurd (omega arith))

  -- its first byte begins nothing
  dead-at-once : (r : List ℕ) (b : ℕ) → ((more : List ℕ) → stop c (segments 0 (b ∷ more)) ≡ Some 0) → Why (Line c) (b ∷ r) 0
  dead-at-once r b f = inr (inl (omega arith, λ more a. never c (b ∷ more) 0 0 (f more) a))

  -- a word that cannot stand there
  barred-at : (w r : List ℕ) → Inners w → NoInner r → stands c (word_of w) ≡ false → Refusal c (w ++ r) n (barred (word_of w) n)
  barred-at [] [] i h e = at-once [] (barred-stop c [] [] n i e h) (inl refl)
  barred-at [] (b ∷ r) i h e = at-once (b ∷ r) (barred-stop c [] (b ∷ r) n i e h) (dead-at-once r b (λ more. barred-stop c [] (b ∷ more) 0 tt e h))
  barred-at (b ∷ u) r i h e =
      kinds b u (λ k. word_of (b ∷ u) ≡ k → Refusal c ((b ∷ u) ++ r) n (barred k n)) (λ s z. keyword crate s (told Crate z)) (λ s z. keyword own s (told Own z)) (λ s z. keyword super s (told Super z)) (λ s z. bare s (told Bare z)) (λ f l z. no (sym e ∙ ap (stands c) z)) (λ l z. digits l (told Digits z)) refl
    where
      told : (k : WordKind) → word_of (b ∷ u) ≡ k → (more : List ℕ) (m : ℕ) → NoInner more → stop c (segments m ((b ∷ u) ++ more)) ≡ Some (barred k m)
      told k s more m g = barred-stop c (b ∷ u) more m i e g ∙ ap (λ k. Some (barred k m)) s

      keyword : {v : List ℕ} → Keyword v → b ∷ u ≡ v → ((more : List ℕ) (m : ℕ) → NoInner more → stop c (segments m ((b ∷ u) ++ more)) ≡ Some m) → Refusal c ((b ∷ u) ++ r) n n
      keyword y s f =
          at-once ((b ∷ u) ++ r) (f r n h)
          (inr (inr (record { word = b ∷ u; rest = r; keyword = subst Keyword (sym s) y; here = refl; whole = h; nowhere = λ more g a. never c ((b ∷ u) ++ more) 0 0 (f more 0 g) a })))

      bare : b ∷ u ≡ codes "_" → ((more : List ℕ) (m : ℕ) → NoInner more → stop c (segments m ((b ∷ u) ++ more)) ≡ Some (m + 1)) → Refusal c ((b ∷ u) ++ r) n (n + 1)
      bare s f = subst (λ (t : List ℕ). ((more : List ℕ) (m : ℕ) → NoInner more → stop c (segments m (t ++ more)) ≡ Some (m + 1)) → Refusal c (t ++ r) n (n + 1)) (sym s) lone f
        where
          solid : (i : ℕ) → i < 1 → Barred (Line c) (95 ∷ r) i → ⊥
          solid zero l d = not-first 95 r d.rest (omega arith) d.keyword d.here
          solid (suc i) l d = omega arith

          why : (r : List ℕ) → NoInner r → ((more : List ℕ) (m : ℕ) → NoInner more → stop c (segments m (95 ∷ more)) ≡ Some (m + 1)) → Why (Line c) (95 ∷ r) 1
          why [] g f = inl refl
          why (d ∷ r) g f = inr (inl (omega arith, λ more a. never c (95 ∷ d ∷ more) 0 1 (f (d ∷ more) 0 g) a))

          lone : ((more : List ℕ) (m : ℕ) → NoInner more → stop c (segments m (95 ∷ more)) ≡ Some (m + 1)) → Refusal c (95 ∷ r) n (n + 1)
          lone f = refused-at (95 ∷ r) 1 (n + 1) refl (f r n h) (97 ∷ [], alone c (95 ∷ 97 ∷ []) (under-a c) filled) (why r h f) (omega arith) solid

      digits : letter b ≡ false → ((more : List ℕ) (m : ℕ) → NoInner more → stop c (segments m ((b ∷ u) ++ more)) ≡ Some m) → Refusal c ((b ∷ u) ++ r) n n
      digits l f =
          at-once (b ∷ (u ++ r)) (f r n h)
          (dead-at-once (u ++ r) b (λ more.
          let k = cut more in
          ap (λ (t : List ℕ). stop c (segments 0 (b ∷ t))) k.text
          ∙ barred-stop c (b ∷ k.word) k.rest 0 (i.0, k.inners) (ap (stands c) (digit-kind b k.word l)) k.ended
          ∙ ap (λ k. Some (barred k 0)) (digit-kind b k.word l)))

-- a front that goes k bytes past a word
took : (w r more : List ℕ) (k j : ℕ) → j ≡ length w + k → take j (w ++ r) ++ more ≡ w ++ (take k r ++ more)
took w r more k j e = ap (λ n. take n (w ++ r) ++ more) e ∙ ap (λ (t : List ℕ). t ++ more) (take_past w r k) ∙ append_assoc w (take k r) more

-- after the word w that can stand, no keyword is at the colons, and none in w
module _ (c : Before) (w : List ℕ) (s : Stood c w) where
  solid : (x : List ℕ) (k : ℕ) → NoInner x → ((j : ℕ) → j < k → (y : List ℕ) × (drop j x ≡ 58 ∷ y)) → (i : ℕ) → i < length w + k → Barred (Line c) (w ++ x) i → ⊥
  solid x k h colons i l d =
      elim (cases_lt i (length w)) [
        | inl m ↦ in-word c w x i s h m d
        | inr m ↦
            let y = colons (i - length w) (omega arith) in
            let z : length w + (i - length w) ≡ i = omega arith in
            not-first 58 y.0 d.rest (omega arith) d.keyword (sym y.1 ∙ sym (drop_past w x (i - length w)) ∙ ap (λ j. drop j (w ++ x)) z ∙ d.here)
      ]

  -- a byte that cannot follow the word
  odd-at : (b : ℕ) (r : List ℕ) (n : ℕ) → inner b ≡ false → (b ≡ 58 → ⊥) → Refusal c (w ++ b ∷ r) n (n + length w)
  odd-at b r n h e =
      let longer : length (w ++ b ∷ r) ≡ length w + suc (length r) = length-append w (b ∷ r) in
      let dead = λ (more : List ℕ) (a : Line c (take (suc (length w)) (w ++ b ∷ r) ++ more)). never c (w ++ b ∷ more) 0 (0 + length w) (odd-stop c w more b 0 s h e) (subst (Line c) (took w (b ∷ r) more 1 (suc (length w)) (omega arith)) a) in
      refused-at c n (w ++ b ∷ r) (length w) (n + length w) refl (odd-stop c w r b n s h e) (begins w s) (inr (inl (omega arith, dead))) (omega arith) (λ i l d. in-word c w (b ∷ r) i s h l d)
    where
      begins : (w : List ℕ) → Stood c w → Begins (Line c) (w ++ b ∷ r) (length w)
      begins [] s = a-begins c (b ∷ r)
      begins (x ∷ w) s = ([], subst (Line c) (sym (took (x ∷ w) (b ∷ r) [] 0 (length (x ∷ w)) (let z : length (x ∷ w) ≡ length (x ∷ w) + 0 = omega arith in z) ∙ append-nil (x ∷ w))) (alone c (x ∷ w) s filled))

  -- half a `::`
  half-at : (r : List ℕ) (n : ℕ) → NoColon r → Refusal c (w ++ 58 ∷ r) n (n + length w + 1)
  half-at r n h =
      let longer : length (w ++ 58 ∷ r) ≡ length w + suc (length r) = length-append w (58 ∷ r) in
      let line : Line c (w ++ 58 ∷ 58 ∷ 97 ∷ []) = record { words = w ∷ (97 ∷ []) ∷ []; some = filled; follows = (s, (λ z. absurd (filled z)), (name-a (after (word_of w)), (λ _. filled), tt)); text = refl } in
      refused-at c n (w ++ 58 ∷ r) (length w + 1) (n + length w + 1) (omega arith) (half-stop c w r n s h) (58 ∷ 97 ∷ [], subst (Line c) (sym (took w (58 ∷ r) (58 ∷ 97 ∷ []) 1 (length w + 1) refl)) line) (why r h) (omega arith) (solid (58 ∷ r) 1 refl one)
    where
      one : (j : ℕ) → j < 1 → (y : List ℕ) × (drop j (58 ∷ r) ≡ 58 ∷ y)
      one zero l = (r, refl)
      one (suc j) l = absurd (omega arith)

      why : (r : List ℕ) → NoColon r → Why (Line c) (w ++ 58 ∷ r) (length w + 1)
      why [] h = inl (sym (length-append w (58 ∷ [])))
      why (y ∷ r) h =
          inr (inl (omega (arith, length-append w (58 ∷ y ∷ r)), λ more a. never c (w ++ 58 ∷ y ∷ more) 0 (0 + length w + 1) (half-stop c w (y ∷ more) 0 s h) (subst (Line c) (took w (58 ∷ y ∷ r) more 2 (suc (length w + 1)) (omega arith)) a)))

  -- what follows `::`
  abbrev Led : List ℕ
  Led = w ++ 58 ∷ 58 ∷ []

  led : (x : List ℕ) → Led ++ x ≡ w ++ 58 ∷ 58 ∷ x
  led x = append_assoc w (58 ∷ 58 ∷ []) x

  to : (x : List ℕ) → Line (after (word_of w)) x → Line c (Led ++ x)
  to x a = joins a.words a.some a.follows (led x ∙ ap (λ (t : List ℕ). w ++ 58 ∷ 58 ∷ t) a.text)
    where
      joins : (l : List (List ℕ)) → (l ≡ [] → ⊥) → Follows (after (word_of w)) l → Led ++ x ≡ w ++ 58 ∷ 58 ∷ joined l → Line c (Led ++ x)
      joins [] n f e = absurd (n refl)
      joins (v ∷ l) n f e = record { words = w ∷ v ∷ l; some = filled; follows = (s, (λ z. absurd (n z)), f); text = e }

  back : (x : List ℕ) → Line c (Led ++ x) → Line (after (word_of w)) x
  back x a = parts a.words a.some a.follows (sym (led x) ∙ a.text)
    where
      parts : (l : List (List ℕ)) → (l ≡ [] → ⊥) → Follows c l → w ++ 58 ∷ 58 ∷ x ≡ joined l → Line (after (word_of w)) x
      parts [] n f e = absurd (n refl)
      parts (v ∷ []) n f e = absurd (filled (same-cut w v (58 ∷ 58 ∷ x) [] s.word f.0.word refl tt e).1)
      parts (v ∷ y ∷ l) n f e =
          let t = same-cut w v (58 ∷ 58 ∷ x) (58 ∷ 58 ∷ joined (y ∷ l)) s.word f.0.word refl refl e in
          record { words = y ∷ l; some = filled; follows = subst (λ (z : List ℕ). Follows (after (word_of z)) (y ∷ l)) (sym t.0) f.2; text = let g = t.1 in cc }

  more-at : (q : List ℕ) (n p : ℕ) → Refusal (after (word_of w)) q (n + length w + 2) p → Refusal c (w ++ 58 ∷ 58 ∷ q) n p
  more-at q n p r =
      let two : length Led ≡ length w + 2 = length-append w (58 ∷ 58 ∷ []) in
      let inside = r.inside in
      let is = r.is in
      record {
        at = length Led + r.at;
        is = omega arith;
        inside = omega (arith, length-append w (58 ∷ 58 ∷ q));
        refused = subst (λ (t : List ℕ). RefusedAt (Line c) t (length Led + r.at)) (led q) (shift (Line c) (Line (after (word_of w))) Led q to back r.at inside (λ i l d. solid (58 ∷ 58 ∷ q) 2 refl both i (omega arith) (subst (λ (t : List ℕ). Barred (Line c) t i) (led q) d)) r.refused);
      }
    where
      both : (j : ℕ) → j < 2 → (y : List ℕ) × (drop j (58 ∷ 58 ∷ q) ≡ 58 ∷ y)
      both zero l = (58 ∷ q, refl)
      both (suc zero) l = (q, refl)
      both (suc (suc j)) l = absurd (omega arith)

Both : Before → List ℕ → ℕ → Type 0
Both c bs n = Verdict c bs n (stop c (segments n bs))

-- what follows a word
data After : List ℕ → Type 0 where
  ends : After []
  goes : (q : List ℕ) → After (58 ∷ 58 ∷ q)
  half : (r : List ℕ) → NoColon r → After (58 ∷ r)
  odd : (b : ℕ) (r : List ℕ) → inner b ≡ false → (b ≡ 58 → ⊥) → After (b ∷ r)

what-follows : (r : List ℕ) → NoInner r → After r
what-follows [] h = ends
what-follows (b ∷ r) h =
    elim (cases_eq b 58) [
      | inl e ↦ subst (λ (z : ℕ). After (z ∷ r)) (sym e) (colon r)
      | inr e ↦ odd b r h e
    ]
  where
    colon : (r : List ℕ) → After (58 ∷ r)
    colon [] = half [] tt
    colon (y ∷ q) = elim (cases_eq y 58) [ inl e ↦ subst (λ (z : ℕ). After (58 ∷ z ∷ q)) (sym e) (goes q) | inr e ↦ half (y ∷ q) e ]

-- a word and what follows it, where what comes after `::` is known
module _ (c : Before) (w : List ℕ) (n fuel : ℕ) (ih : (q : List ℕ) → length q < fuel → Both (after (word_of w)) q (n + length w + 2)) where
  so : (bs : List ℕ) (o : Option ℕ) → stop c (segments n bs) ≡ o → Verdict c bs n o → Both c bs n
  unfolding Both
  so bs o e v = subst (Verdict c bs n) (sym e) v

  by-rest : Stood c w → (q : List ℕ) → length q < fuel → Both c (w ++ 58 ∷ 58 ∷ q) n
  unfolding Both
  by-rest s q l = at (stop (after (word_of w)) (segments (n + length w + 2) q)) refl (ih q l)
    where
      at : (o : Option ℕ) → stop (after (word_of w)) (segments (n + length w + 2) q) ≡ o → Verdict (after (word_of w)) q (n + length w + 2) o → Both c (w ++ 58 ∷ 58 ∷ q) n
      at None e v = so (w ++ 58 ∷ 58 ∷ q) None (more-stop c w q n s ∙ e) (subst (Line c) (led c w s q) (to c w s q v))
      at (Some p) e v = so (w ++ 58 ∷ 58 ∷ q) (Some p) (more-stop c w q n s ∙ e) (more-at c w s q n p v)

  last : (v : List ℕ) → Stood c v → Both c (v ++ []) n
  last [] s = let e : stop c (segments n []) ≡ Some n = rw s.may in so [] (Some n) e (at-once c n [] e (inl refl))
  last (x ∷ v) s = so ((x ∷ v) ++ []) None (last-stop c (x ∷ v) n s filled) (subst (Line c) (sym (append-nil (x ∷ v))) (alone c (x ∷ v) s filled))

  follow : Stood c w → (r : List ℕ) → length (w ++ r) ≤ fuel → After r → Both c (w ++ r) n
  follow s r l ends = last w s
  follow s r l (goes q) = by-rest s q (omega (arith, length-append w (58 ∷ 58 ∷ q)))
  follow s r l (half q h) = so (w ++ 58 ∷ q) _ (half-stop c w q n s h) (half-at c w s q n h)
  follow s r l (odd b q h e) = so (w ++ b ∷ q) _ (odd-stop c w q b n s h e) (odd-at c w s b q n h e)

  after-word : (r : List ℕ) → length (w ++ r) ≤ fuel → Inners w → NoInner r → Both c (w ++ r) n
  after-word r l i h =
      elim (cases_Bool (stands c (word_of w))) [
        | inl e ↦ follow (record { word = i; may = e }) r l (what-follows r h)
        | inr e ↦ so (w ++ r) _ (barred-stop c w r n i e h) (barred-at c n w r i h e)
      ]

verdict-below : (fuel : ℕ) (c : Before) (bs : List ℕ) (n : ℕ) → length bs < fuel → Both c bs n
verdict-below zero c bs n l = absurd (omega arith)
verdict-below (suc fuel) c bs n l =
    let k = cut bs in
    let t = k.text in
    let e : length bs ≡ length (k.word ++ k.rest) = ap length t in
    subst (λ (t : List ℕ). Both c t n) (sym t)
    (after-word c k.word n fuel (λ q g. verdict-below fuel (after (word_of k.word)) q (n + length k.word + 2) g) k.rest (omega arith) k.inners k.ended)

pub verdict : (c : Before) (bs : List ℕ) (n : ℕ) → Verdict c bs n (stop c (segments n bs))
unfolding Both
verdict c bs n = verdict-below (suc (length bs)) c bs n (omega arith)
