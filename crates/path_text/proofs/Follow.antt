-- What a word's kind tells of it, which words can follow one another, and where a text that joins words stops.
use Rattle.std.proofs.Common.{◌≡◌, ℕ, Bool, true, false, cond, List, [], ◌∷◌, codes, refl, Decides, arith, ◌+◌, ◌++◌, length, Some, None, ap, ◌∙◌, ne_eqb}
use Rattle.std.proofs.lemmas.Slice.Eq.{bytes_eq-Decides}
use Rattle.std.proofs.lemmas.Bool.{or_left}
use Rattle.path_text.specs.declared.segment.WordKind.{WordKind}
use Rattle.path_text.specs.declared.segment.WordKind.TheVariants.{Empty, Crate, Own, Super, Bare, Name, Digits}
use Rattle.path_text.specs.Bytes.{letter, inner}
use Rattle.path_text.specs.Grammar.{Inners, Word, IsName, joined}
use Rattle.path_text.specs.Segments.{word_of, next_at, segments}
use Rattle.std.specs.Option.{option_or}
use Rattle.path_text.specs.declared.language.Before.{Before}
use Rattle.path_text.specs.Words.{NoInner}
use Rattle.path_text.specs.Language.{stands, after, barred, ended, stop}
use Rattle.path_text.proofs.Cut.{more_at, seg}
use Rattle.path_text.specs.declared.segment.Next.TheVariants as next

pub no : {X : Type 0} → false ≡ true → X
no e = absurd (let z : ◌≡◌ {A = ℕ} 0 1 = cc in omega arith)

module _ (b : ℕ) (u : List ℕ) (P : WordKind → Type 0) where
  abbrev Is : List ℕ → Bool → Type 0
  Is v t = Decides t (b ∷ u ≡ v)

  go : (p q r s t : Bool) → Is (codes "crate") p → Is (codes "self") q → Is (codes "super") r → Is (codes "_") s → letter b ≡ t
      → (b ∷ u ≡ codes "crate" → P Crate) → (b ∷ u ≡ codes "self" → P Own) → (b ∷ u ≡ codes "super" → P Super) → (b ∷ u ≡ codes "_" → P Bare) → ((Word (b ∷ u) → IsName (b ∷ u)) → letter b ≡ true → P Name) → (letter b ≡ false → P Digits)
      → P (cond p Crate (cond q Own (cond r Super (cond s Bare (cond t Name Digits)))))
  go true q r s t dp dq dr ds l kp kq kr ks kn kd = kp (dp.0 refl)
  go false true r s t dp dq dr ds l kp kq kr ks kn kd = kq (dq.0 refl)
  go false false true s t dp dq dr ds l kp kq kr ks kn kd = kr (dr.0 refl)
  go false false false true t dp dq dr ds l kp kq kr ks kn kd = ks (ds.0 refl)
  go false false false false true dp dq dr ds l kp kq kr ks kn kd = kn (λ h. record { word = h; not-bare = λ e. no (ds.1 e); not-crate = λ e. no (dp.1 e); not-self = λ e. no (dq.1 e); not-super = λ e. no (dr.1 e) }) l
  go false false false false false dp dq dr ds l kp kq kr ks kn kd = kd l

  -- what holds of a word's kind, by what each kind tells of it
  pub kinds : (b ∷ u ≡ codes "crate" → P Crate) → (b ∷ u ≡ codes "self" → P Own) → (b ∷ u ≡ codes "super" → P Super) → (b ∷ u ≡ codes "_" → P Bare) → ((Word (b ∷ u) → IsName (b ∷ u)) → letter b ≡ true → P Name) → (letter b ≡ false → P Digits) → P (word_of (b ∷ u))
  kinds = go _ _ _ _ _ (bytes_eq-Decides _ _) (bytes_eq-Decides _ _) (bytes_eq-Decides _ _) (bytes_eq-Decides _ _) refl

-- a name's kind
pub name-kind : (w : List ℕ) → IsName w → word_of w ≡ Name
name-kind [] n = absurd n.word
name-kind (b ∷ u) n = kinds b u (λ k. k ≡ Name) (λ e. absurd (n.not-crate e)) (λ e. absurd (n.not-self e)) (λ e. absurd (n.not-super e)) (λ e. absurd (n.not-bare e)) (λ f l. refl) (λ l. let h = n.word.0 in no cc)

pub letter-inners : (w : List ℕ) → Word w → Inners w
letter-inners [] h = absurd h
letter-inners (b ∷ u) h = (or_left (letter b) _ h.0, h.1)

-- what a kind tells of its word
abbrev pub Means : WordKind → List ℕ → Type 0
Means Empty w = w ≡ []
Means Crate w = w ≡ codes "crate"
Means Own w = w ≡ codes "self"
Means Super w = w ≡ codes "super"
Means Bare w = w ≡ codes "_"
Means Name w = IsName w
Means Digits w = Unit {0}

pub means : (w : List ℕ) → Inners w → Means (word_of w) w
means [] i = refl
means (b ∷ u) i = kinds b u (λ k. Means k (b ∷ u)) (λ e. e) (λ e. e) (λ e. e) (λ e. e) (λ f l. f (l, i.1)) (λ l. tt)

-- bytes of a word, of a kind that can stand there
pub record Stood (c : Before) (w : List ℕ) : Type 0 where
  pub word : Inners w
  pub may : stands c (word_of w) ≡ true

-- each word can stand after those before it, and the last one is a word
abbrev pub Follows : Before → List (List ℕ) → Type 0
Follows c [] = Unit {0}
Follows c (w ∷ l) = Stood c w × (l ≡ [] → w ≡ [] → ⊥) × Follows (after (word_of w)) l

pub record Line (c : Before) (bs : List ℕ) : Type 0 where
  pub words : List (List ℕ)
  pub some : words ≡ [] → ⊥
  pub follows : Follows c words
  pub text : bs ≡ joined words

pub filled : {A : Type 0} {a : A} {l : List A} → a ∷ l ≡ [] → ⊥
filled e = let z : ◌≡◌ {A = ℕ} 0 1 = cc in omega arith

-- no colon comes first
abbrev pub NoColon : List ℕ → Type 0
NoColon [] = Unit {0}
NoColon (b ∷ bs) = (b ≡ 58) → ⊥

goes : (c : Before) (w r : List ℕ) (n : ℕ) → Stood c w → NoInner r → stop c (segments n (w ++ r)) ≡ option_or (ended (word_of w) n (next_at (n + length w) r)) (stop (after (word_of w)) (more_at (n + length w) r))
goes c w r n s h = ap (stop c) (seg w r n s.word h) ∙ rw s.may

pub barred-stop : (c : Before) (w r : List ℕ) (n : ℕ) → Inners w → stands c (word_of w) ≡ false → NoInner r → stop c (segments n (w ++ r)) ≡ Some (barred (word_of w) n)
barred-stop c w r n i e h = ap (stop c) (seg w r n i h) ∙ rw e

not-empty : (w : List ℕ) (n : ℕ) → (w ≡ [] → ⊥) → ended (word_of w) n next.End ≡ None
not-empty [] n e = absurd (e refl)
not-empty (b ∷ u) n e = kinds b u (λ k. ended k n next.End ≡ None) (λ _. refl) (λ _. refl) (λ _. refl) (λ _. refl) (λ _ _. refl) (λ _. refl)

pub last-stop : (c : Before) (w : List ℕ) (n : ℕ) → Stood c w → (w ≡ [] → ⊥) → stop c (segments n (w ++ [])) ≡ None
last-stop c w n s e = goes c w [] n s tt ∙ rw (not-empty w n e)

pub more-stop : (c : Before) (w q : List ℕ) (n : ℕ) → Stood c w → stop c (segments n (w ++ 58 ∷ 58 ∷ q)) ≡ stop (after (word_of w)) (segments (n + length w + 2) q)
more-stop c w q n s = goes c w (58 ∷ 58 ∷ q) n s refl

pub odd-stop : (c : Before) (w r : List ℕ) (b n : ℕ) → Stood c w → inner b ≡ false → (b ≡ 58 → ⊥) → stop c (segments n (w ++ b ∷ r)) ≡ Some (n + length w)
odd-stop c w [] b n s h e = goes c w (b ∷ []) n s h ∙ rw (ne_eqb b 58 e)
odd-stop c w (d ∷ r) b n s h e = goes c w (b ∷ d ∷ r) n s h ∙ rw (ne_eqb b 58 e)

pub half-stop : (c : Before) (w r : List ℕ) (n : ℕ) → Stood c w → NoColon r → stop c (segments n (w ++ 58 ∷ r)) ≡ Some (n + length w + 1)
half-stop c w [] n s h = goes c w (58 ∷ []) n s refl
half-stop c w (d ∷ r) n s h = goes c w (58 ∷ d ∷ r) n s refl ∙ rw (ne_eqb d 58 h)

-- words that can follow one another are read to their end
accepted : (l : List (List ℕ)) (c : Before) (n : ℕ) → (l ≡ [] → ⊥) → Follows c l → stop c (segments n (joined l)) ≡ None
accepted [] c n e f = absurd (e refl)
accepted (w ∷ []) c n e f = last-stop c w n f.0 (f.1 refl)
accepted (w ∷ v ∷ l) c n e f = more-stop c w (joined (v ∷ l)) n f.0 ∙ accepted (v ∷ l) (after (word_of w)) (n + length w + 2) filled f.2

pub line-stop : (c : Before) (bs : List ℕ) (n : ℕ) → Line c bs → stop c (segments n bs) ≡ None
line-stop c bs n a = ap (λ (t : List ℕ). stop c (segments n t)) a.text ∙ accepted a.words c n a.some a.follows

pub never : {X : Type 0} (c : Before) (bs : List ℕ) (n p : ℕ) → stop c (segments n bs) ≡ Some p → Line c bs → X
never c bs n p e a = let f = line-stop c bs n a in absurd (let z : ◌≡◌ {A = ℕ} 0 1 = cc in omega arith)

-- a word and what follows it are told by where its bytes end
pub same-cut : (v w r q : List ℕ) → Inners v → Inners w → NoInner r → NoInner q → v ++ r ≡ w ++ q → (v ≡ w) × (r ≡ q)
same-cut [] [] r q i j h g e = (refl, e)
same-cut [] (y ∷ w) [] q i j h g e = absurd (let z : ◌≡◌ {A = ℕ} 0 1 = cc in omega arith)
same-cut [] (y ∷ w) (x ∷ r) q i j h g e = let s : x ≡ y = cc in let k = j.0 in absurd (let z : ◌≡◌ {A = ℕ} 0 1 = cc in omega arith)
same-cut (x ∷ v) [] r [] i j h g e = absurd (let z : ◌≡◌ {A = ℕ} 0 1 = cc in omega arith)
same-cut (x ∷ v) [] r (y ∷ q) i j h g e = let s : x ≡ y = cc in let k = i.0 in absurd (let z : ◌≡◌ {A = ℕ} 0 1 = cc in omega arith)
same-cut (x ∷ v) (y ∷ w) r q i j h g e =
    let t : v ++ r ≡ w ++ q = cc in
    let s = same-cut v w r q i.1 j.1 h g t in (let a = s.0 in let b : x ≡ y = cc in cc, s.1)
