-- What a path that was read, or a refusal, says of its text in the words of the grammar.
use Rattle.std.proofs.Common.{◌≡◌, ℕ, ◌+◌, ◌≤◌, Bool, true, false, ltb, List, [], ◌∷◌, ◌++◌, length, Some, None, Ok, Err, Option, MatchOption, MatchResult, is_ok, sym, refl, ap, ◌∙◌, subst, append-nil, zero-add, length-append, inl, inr, arith}
use Rattle.std.proofs.lemmas.Bool.{cases_Bool, ltb-true, ltb-false}
use Rattle.std.proofs.lemmas.List.{length-map}
use Rattle.path_text.specs.declared.mod_path.PathKind.{PathKind}
use Rattle.path_text.specs.declared.mod_path.PathKind.TheVariants as path
use Rattle.path_text.specs.declared.language.Before.TheVariants.{Nothing}
use Rattle.path_text.specs.Grammar.{Names as AllNames, joined, lead, Reads, IsPath}
use Rattle.path_text.specs.Words.{closed}
use Rattle.path_text.specs.Lists.{Never, FirstAt, first, IsLineAt}
use Rattle.path_text.specs.Segments.{Piece, segments, word_of, is_name}
use Rattle.path_text.specs.Texts.{stop_of, unless_stopped}
use Rattle.path_text.specs.Paths.{names_in, level_in, kind_in, listed_in, unlisted_in, Read, read_words, read_of}
use Rattle.path_text.specs.Laws.{Numbered, level_of, IsRead, TooLong, TooHigh, IsLine, AllLines, Unlisted, Denies, IsReadable}
use Rattle.path_text.proofs.First.{found_first}
use Rattle.path_text.proofs.Reading.{Judged, judged, front, told, spoken, reads-line, names, level, kind, texts, pieces, in-pieces, texts-of, filter-texts, level-texts, kind-texts}

-- ---- names and lines
numbered : (ls : List (List ℕ)) (ss : List Piece) → unlisted_in ls ss ≡ None → Numbered ls (texts ss) (listed_in ls ss)
numbered ls [] e = tt
numbered ls (s ∷ ss) e = at (first ls s.text 0) refl e (numbered ls ss)
  where
    at : (o : Option ℕ) → first ls s.text 0 ≡ o → unlisted_in ls (s ∷ ss) ≡ None → (unlisted_in ls ss ≡ None → Numbered ls (texts ss) (listed_in ls ss)) → Numbered ls (texts (s ∷ ss)) (listed_in ls (s ∷ ss))
    at None z e ih = let f = rw z at e in absurd (let y : ◌≡◌ {A = ℕ} 0 1 = cc in omega arith)
    at (Some n) z e ih = rw z (z, ih (rw z at e))

is-line : (ls : List (List ℕ)) (t : List ℕ) (o : Option ℕ) → first ls t 0 ≡ o → MatchOption o (IsLine ls t → ⊥) (λ n. IsLine ls t)
is-line ls t o e = at o (subst (λ o. MatchOption o (Never (IsLineAt ls t)) (FirstAt (IsLineAt ls t))) e (found_first ls t))
  where
    at : (o : Option ℕ) → MatchOption o (Never (IsLineAt ls t)) (FirstAt (IsLineAt ls t)) → MatchOption o (IsLine ls t → ⊥) (λ n. IsLine ls t)
    at None f = λ h. f h.0 h.1
    at (Some n) f = (n, f.0)

-- the first name that is no line, among words that begin at n
record Missing (ls l : List (List ℕ)) (n place : ℕ) : Type 0 where
  pre : List (List ℕ)
  name : List ℕ
  post : List (List ℕ)
  split : l ≡ pre ++ name ∷ post
  is : is_name (word_of name) ≡ true
  listed : AllLines ls (names pre)
  unlisted : IsLine ls name → ⊥
  here : place ≡ n + length (closed pre)

missing : (ls l : List (List ℕ)) (n p : ℕ) → unlisted_in ls (names_in (pieces n l)) ≡ Some p → Missing ls l n p
missing ls [] n p e = cc
missing ls (w ∷ l) n p e = at (is_name (word_of w)) (first ls w 0) refl refl e (missing ls l (n + length w + 2) p)
  where
    on : (m : Missing ls l (n + length w + 2) p) → AllLines ls (names (w ∷ m.pre)) → Missing ls (w ∷ l) n p
    on m h = record { pre = w ∷ m.pre; name = m.name; post = m.post; split = ap (λ (t : List (List ℕ)). w ∷ t) m.split; is = m.is; listed = h; unlisted = m.unlisted; here = let h = m.here in omega (arith, length-append w (58 ∷ 58 ∷ closed m.pre)) }

    at : (b : Bool) (o : Option ℕ) → is_name (word_of w) ≡ b → first ls w 0 ≡ o → unlisted_in ls (names_in (pieces n (w ∷ l))) ≡ Some p → (unlisted_in ls (names_in (pieces (n + length w + 2) l)) ≡ Some p → Missing ls l (n + length w + 2) p) → Missing ls (w ∷ l) n p
    at false o y z e ih = let m = ih (rw y at e) in on m (rw y m.listed)
    at true None y z e ih = let f = rw (y, z) at e in record { pre = []; name = w; post = l; split = refl; is = y; listed = tt; unlisted = is-line ls w None z; here = let h : n ≡ p = cc in omega arith }
    at true (Some i) y z e ih = let m = ih (rw (y, z) at e) in on m (rw y (is-line ls w (Some i) z, m.listed))

-- a name stands past words that are none
record Past (a ns pre : List (List ℕ)) (name : List ℕ) (post : List (List ℕ)) : Type 0 where
  before : List (List ℕ)
  pre_is : pre ≡ a ++ before
  names_are : ns ≡ before ++ name ∷ post

past : (a ns pre : List (List ℕ)) (name : List ℕ) (post : List (List ℕ)) → names a ≡ [] → is_name (word_of name) ≡ true → a ++ ns ≡ pre ++ name ∷ post → Past a ns pre name post
past [] ns pre name post e h f = record { before = pre; pre_is = refl; names_are = f }
past (w ∷ a) ns pre name post e h f =
    elim (cases_Bool (is_name (word_of w))) [
      | inl y ↦ let g = rw y at e in cc
      | inr y ↦ at pre y f (λ pre f. past a ns pre name post (rw y at e) h f)
    ]
  where
    at : (pre : List (List ℕ)) → is_name (word_of w) ≡ false → w ∷ a ++ ns ≡ pre ++ name ∷ post → ((pre : List (List ℕ)) → a ++ ns ≡ pre ++ name ∷ post → Past a ns pre name post) → Past (w ∷ a) ns pre name post
    at [] y f ih = let z : w ≡ name = cc in let g = sym y ∙ ap (λ (w : List ℕ). is_name (word_of w)) z ∙ h in cc
    at (x ∷ pre) y f ih =
        let r = ih pre cc in
        record { before = r.before; pre_is = (let z : x ≡ w = cc in let g = r.pre_is in cc); names_are = r.names_are }

front-names : (a b : List (List ℕ)) → AllNames (a ++ b) → AllNames a
front-names [] b h = tt
front-names (w ∷ a) b h = (h.0, front-names a b h.1)

lead-closed : (k : PathKind) (st l : List (List ℕ)) → closed (front k st ++ l) ≡ lead k ++ closed (st ++ l)
lead-closed path.Abs st l = refl
lead-closed _ st l = refl

-- ---- the reading of a text
module _ (ls : List (List ℕ)) (text : List ℕ) where
  abbrev ss : List Piece
  ss = segments 0 text

  abbrev found : List Piece
  found = names_in ss

  -- kind and names are those of any reading
  words-of : (k : PathKind) (ws : List (List ℕ)) (r : Reads text k ws) → texts ss ≡ front k r.start ++ ws
  words-of k ws r = ap (λ (t : List ℕ). texts (segments 0 t)) (reads-line text k ws r) ∙ (let s = spoken k r.start ws r.starts r.named r.some in ap texts (in-pieces (front k r.start ++ ws) Nothing 0 s.some s.follows) ∙ texts-of (front k r.start ++ ws) 0)

  unique : (k : PathKind) (ws : List (List ℕ)) → Reads text k ws → (kind_in ss ≡ k) × (texts found ≡ ws) × (level_in ss ≡ level_of k)
  unique k ws r =
      let e = words-of k ws r in
      let t = told k r.start ws r.starts r.named in
      (kind-texts ss ∙ ap kind e ∙ t.kind_is, filter-texts (λ w. is_name (word_of w)) ss ∙ ap names e ∙ t.names_are, level-texts ss ∙ ap level e ∙ t.level_is)

  the-reading : IsPath text → Reads text (kind_in ss) (texts found)
  the-reading p =
      let u = unique p.kind p.names p.reads in
      subst (λ k. Reads text k (texts found)) (sym u.0) (subst (Reads text p.kind) (sym u.1) p.reads)

  -- the counts
  few-texts : length found ≤ 64 → length (texts found) ≤ 64
  few-texts h = omega (arith, length-map found (λ (s : Piece). s.text))

  same-level : IsPath text → level_in ss ≡ level_of (kind_in ss)
  same-level p = let u = unique p.kind p.names p.reads in u.2 ∙ ap level_of (sym u.0)

  is_read : IsPath text → length found ≤ 64 → level_in ss ≤ 255 → unlisted_in ls found ≡ None → IsRead ls text (kind_in ss) (listed_in ls found)
  is_read p few low all = record {
    names = texts found;
    reads = the-reading p;
    only = λ k ws r. let u = unique k ws r in (sym u.0, sym u.1);
    few = few-texts few;
    low = let e = same-level p in omega arith;
    numbered = numbered ls found all;
  }

  unlisted : IsPath text → length found ≤ 64 → level_in ss ≤ 255 → (place : ℕ) → unlisted_in ls found ≡ Some place → Unlisted ls text place
  unlisted p few low place e =
      let r = the-reading p in
      let k = kind_in ss in
      let a = front k r.start in
      let q = spoken k r.start (texts found) r.starts r.named r.some in
      let all : ss ≡ pieces 0 (a ++ texts found) = ap (segments 0) (reads-line text k (texts found) r) ∙ in-pieces (a ++ texts found) Nothing 0 q.some q.follows in
      let m = missing ls (a ++ texts found) 0 place (ap (λ (x : List Piece). unlisted_in ls (names_in x)) (sym all) ∙ e) in
      let none : names a ≡ [] = ap names (sym (append-nil a)) ∙ (told k r.start [] r.starts tt).names_are in
      let s = past a (texts found) m.pre m.name m.post none m.is m.split in
      let named = subst AllNames s.names_are r.named in
      record {
        kind = k;
        before = s.before;
        name = m.name;
        more = m.post;
        reads = record {
          start = r.start;
          starts = r.starts;
          named = named;
          some = subst (λ (x : List (List ℕ)). r.start ++ x ≡ [] → ⊥) s.names_are r.some;
          spelled = subst (λ (x : List (List ℕ)). text ≡ lead k ++ joined (r.start ++ x)) s.names_are r.spelled;
        };
        few = subst (λ (x : List (List ℕ)). length x ≤ 64) s.names_are (few-texts few);
        low = let e = same-level p in omega arith;
        listed = subst (AllLines ls) (ap names s.pre_is ∙ (told k r.start s.before r.starts (front-names s.before (m.name ∷ m.post) named)).names_are) m.listed;
        unlisted = m.unlisted;
        here = m.here ∙ zero-add (length (closed m.pre)) ∙ ap (λ (x : List (List ℕ)). length (closed x)) s.pre_is ∙ ap length (lead-closed k r.start s.before);
      }

  too-long : IsPath text → ltb 64 (length found) ≡ true → TooLong text
  too-long p x = record { kind = kind_in ss; names = texts found; reads = the-reading p; many = let h = ltb-true 64 (length found) x in omega (arith, length-map found (λ (s : Piece). s.text)) }

  too-high : IsPath text → ltb 64 (length found) ≡ false → ltb 255 (level_in ss) ≡ true → TooHigh text
  too-high p x y = record { kind = kind_in ss; names = texts found; reads = the-reading p; few = few-texts (ltb-false 64 (length found) x); high = let h = ltb-true 255 (level_in ss) y in let e = same-level p in omega arith }

  abbrev pub Means : Read → Type 0
  Means r = MatchResult r (λ p. IsRead ls text p.0 p.1) (Denies ls text)

  counted : IsPath text → (a b : Bool) (o : Option ℕ) → ltb 64 (length found) ≡ a → ltb 255 (level_in ss) ≡ b → unlisted_in ls found ≡ o → Means (read_words ls ss)
  counted p true b o x y z = rw x (too-long p x)
  counted p false true o x y z = rw (x, y) (too-high p x y)
  counted p false false None x y z = rw (x, y, z) (is_read p (ltb-false 64 (length found) x) (ltb-false 255 (level_in ss) y) z)
  counted p false false (Some q) x y z = rw (x, y, z) (unlisted p (ltb-false 64 (length found) x) (ltb-false 255 (level_in ss) y) q z)

  pub laws : Means (read_of ls text)
  laws = at (stop_of text) (judged text)
    where
      at : (o : Option ℕ) → Judged text o → Means (unless_stopped o (read_words ls ss))
      at None p = counted p (ltb 64 (length found)) (ltb 255 (level_in ss)) (unlisted_in ls found) refl refl refl
      at (Some q) v = v

  pub readable : is_ok (read_of ls text) ≡ true → IsReadable ls text
  readable e = at (read_of ls text) laws e
    where
      at : (r : Read) → Means r → is_ok r ≡ true → IsReadable ls text
      at (Ok p) l e = (p.0, p.1, l)
      at (Err f) l e = cc
