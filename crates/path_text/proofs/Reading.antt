-- Words that can follow one another are exactly a start and names: so a text stops where it stops being a path, and its segments tell its reading.
use Rattle.std.proofs.Common.{◌≡◌, ℕ, zero, suc, true, List, [], ◌∷◌, ◌++◌, filter, length, Some, None, codes, Option, sym, refl, ap, ◌∙◌, subst, arith, ◌+◌, MatchOption, Bool, map, inl, inr}
use Rattle.path_text.specs.declared.language.Before.{Before}
use Rattle.path_text.specs.declared.language.Before.TheVariants.{Nothing, Supers, Names}
use Rattle.path_text.specs.declared.segment.WordKind.{WordKind}
use Rattle.path_text.specs.declared.mod_path.PathKind.{PathKind}
use Rattle.path_text.specs.declared.mod_path.PathKind.TheVariants.{Plain, Super, Crate, Abs}
use Rattle.path_text.specs.Segments.{word_of, is_name, Piece, piece, segments}
use Rattle.path_text.specs.Language.{is_super, stands, after}
use Rattle.path_text.specs.Grammar.{Word, IsName, Names as AllNames, supers, Starts, plain, absolute, crate, own, above, joined, lead, Reads, IsPath}
use Rattle.path_text.specs.Laws.{level_of}
use Rattle.path_text.specs.Paths.{kind_by, level_in, kind_in}
use Rattle.path_text.proofs.Follow.{Means, means, no, name-kind, letter-inners, Stood, Follows, Line, filled}
use Rattle.path_text.specs.Places.{RefusedAt}
use Rattle.path_text.specs.Texts.{stop_of}
use Rattle.path_text.proofs.Halting.{shift}
use Rattle.path_text.proofs.Verdict.{Verdict, verdict}
use Rattle.std.proofs.lemmas.Bool.{cases_Bool}
use Rattle.std.proofs.lemmas.List.{length-map}
use Rattle.path_text.proofs.Cut.{seg}
use Rattle.path_text.specs.declared.segment.WordKind.TheVariants as word
use Rattle.path_text.specs.declared.segment.Next.{Next}
use Rattle.path_text.specs.declared.segment.Next.TheVariants as next

-- what words tell of a path
abbrev pub names : List (List ℕ) → List (List ℕ)
names l = filter (λ w. is_name (word_of w)) l

abbrev pub level : List (List ℕ) → ℕ
level l = length (filter (λ w. is_super (word_of w)) l)

abbrev pub start : List (List ℕ) → Option WordKind
start [] = None
start (w ∷ l) = Some (word_of w)

abbrev pub kind : List (List ℕ) → PathKind
kind l = kind_by (start l) (level l)

-- the words before the names: a leading `::` has an empty one
abbrev pub front : PathKind → List (List ℕ) → List (List ℕ)
front Abs st = [] ∷ st
front _ st = st

-- names alone
all-names : (ns : List (List ℕ)) → AllNames ns → names ns ≡ ns
all-names [] a = refl
all-names (w ∷ ns) a = rw (name-kind w a.0) (ap (λ (t : List (List ℕ)). w ∷ t) (all-names ns a.1))

no-supers : (ns : List (List ℕ)) → AllNames ns → level ns ≡ 0
no-supers [] a = refl
no-supers (w ∷ ns) a = rw (name-kind w a.0) (no-supers ns a.1)

-- and after `super`
past-supers : (n : ℕ) (ns : List (List ℕ)) → AllNames ns → names (supers n ++ ns) ≡ ns
past-supers zero ns a = all-names ns a
past-supers (suc n) ns a = past-supers n ns a

levels : (n : ℕ) (ns : List (List ℕ)) → AllNames ns → level (supers n ++ ns) ≡ n
levels zero ns a = no-supers ns a
levels (suc n) ns a = ap suc (levels n ns a)

pub record Told (k : PathKind) (ns l : List (List ℕ)) : Type 0 where
  pub kind_is : kind l ≡ k
  pub names_are : names l ≡ ns
  pub level_is : level l ≡ level_of k

pub told : (k : PathKind) (st ns : List (List ℕ)) → Starts k st → AllNames ns → Told k ns (front k st ++ ns)
told k st [] plain a = record { kind_is = refl; names_are = refl; level_is = refl }
told k st (w ∷ ns) plain a = record { kind_is = rw (name-kind w a.0); names_are = all-names (w ∷ ns) a; level_is = no-supers (w ∷ ns) a }
told k st ns absolute a = record { kind_is = refl; names_are = all-names ns a; level_is = no-supers ns a }
told k st ns crate a = record { kind_is = refl; names_are = all-names ns a; level_is = no-supers ns a }
told k st ns (own {n}) a = record { kind_is = ap Super (levels n ns a); names_are = past-supers n ns a; level_is = levels n ns a }
told k st ns (above {n}) a = record { kind_is = ap Super (levels (suc n) ns a); names_are = past-supers n ns a; level_is = levels (suc n) ns a }

-- ---- what can stand before others
-- names can stand everywhere
name-stood : (c : Before) (w : List ℕ) → IsName w → Stood c w
name-stood c w n = record { word = letter-inners w n.word; may = ap (stands c) (name-kind w n) }

names-follow : (c : Before) (ns : List (List ℕ)) → AllNames ns → Follows c ns
names-follow c [] a = tt
names-follow c (w ∷ ns) a = (name-stood c w a.0, (λ _ e. subst Word e a.0.word), subst (λ k. Follows (after k) ns) (sym (name-kind w a.0)) (names-follow Names ns a.1))

supers-follow : (n : ℕ) (ns : List (List ℕ)) → AllNames ns → Follows Supers (supers n ++ ns)
supers-follow zero ns a = names-follow Supers ns a
supers-follow (suc n) ns a = (record { word = (refl, (refl, (refl, (refl, (refl, tt))))); may = refl }, (λ _. filled), supers-follow n ns a)

-- the words of a path, which follow one another, and the text that joins them
pub record Spoken (k : PathKind) (st ns : List (List ℕ)) : Type 0 where
  pub some : front k st ++ ns ≡ [] → ⊥
  pub follows : Follows Nothing (front k st ++ ns)
  pub spelled : lead k ++ joined (st ++ ns) ≡ joined (front k st ++ ns)

pub spoken : (k : PathKind) (st ns : List (List ℕ)) → Starts k st → AllNames ns → (st ++ ns ≡ [] → ⊥) → Spoken k st ns
spoken k st [] plain a e = absurd (e refl)
spoken k st (w ∷ ns) plain a e = record { some = filled; follows = names-follow Nothing (w ∷ ns) a; spelled = refl }
spoken k st [] absolute a e = absurd (e refl)
spoken k st (w ∷ ns) absolute a e = record { some = filled; follows = (record { word = tt; may = refl }, (λ z. absurd (filled z)), names-follow Names (w ∷ ns) a); spelled = refl }
spoken k st ns crate a e = record { some = filled; follows = (record { word = (refl, (refl, (refl, (refl, (refl, tt))))); may = refl }, (λ _. filled), names-follow Names ns a); spelled = refl }
spoken k st ns (own {n}) a e = record { some = filled; follows = (record { word = (refl, (refl, (refl, (refl, tt)))); may = refl }, (λ _. filled), supers-follow n ns a); spelled = refl }
spoken k st ns (above {n}) a e = record { some = filled; follows = (record { word = (refl, (refl, (refl, (refl, (refl, tt))))); may = refl }, (λ _. filled), supers-follow n ns a); spelled = refl }

-- ---- and the other way
-- only names stand after names
only-name : (w : List ℕ) → Stood Names w → IsName w × (word_of w ≡ word.Name)
only-name w s = by_kind (word_of w) refl s.may (means w s.word)
  where
    by_kind : (k : WordKind) → word_of w ≡ k → stands Names k ≡ true → Means k w → IsName w × (word_of w ≡ word.Name)
    by_kind word.Name z m t = (t, z)
    by_kind _ z m t = no m

names-of : (l : List (List ℕ)) → Follows Names l → AllNames l
names-of [] f = tt
names-of (w ∷ l) f =
    let n = only-name w f.0 in
    (n.0, names-of l (subst (λ k. Follows (after k) l) n.1 f.2))

record Ups (l : List (List ℕ)) : Type 0 where
  count : ℕ
  names : List (List ℕ)
  named : AllNames names
  spelled : l ≡ supers count ++ names

-- after `self` and `super` come more `super`, and then names
ups-of : (l : List (List ℕ)) → Follows Supers l → Ups l
ups-of [] f = record { count = 0; names = []; named = tt; spelled = refl }
ups-of (w ∷ l) f = by_kind (word_of w) refl f.0.may (means w f.0.word) f.2 (ups-of l)
  where
    by_kind : (k : WordKind) → word_of w ≡ k → stands Supers k ≡ true → Means k w → Follows (after (word_of w)) l → (Follows Supers l → Ups l) → Ups (w ∷ l)
    by_kind word.Super z m t r ih =
        let u = ih (subst (λ k. Follows (after k) l) z r) in
        record { count = suc u.count; names = u.names; named = u.named; spelled = ap (λ (x : List ℕ). x ∷ l) t ∙ ap (λ (x : List (List ℕ)). codes "super" ∷ x) u.spelled }
    by_kind word.Name z m t r ih = record { count = 0; names = w ∷ l; named = (t, names-of l (subst (λ k. Follows (after k) l) z r)); spelled = refl }
    by_kind _ z m t r ih = no m

-- the words are a start and names
pub record Parsed (l : List (List ℕ)) : Type 0 where
  pub kind : PathKind
  pub start : List (List ℕ)
  pub names : List (List ℕ)
  pub starts : Starts kind start
  pub named : AllNames names
  pub some : start ++ names ≡ [] → ⊥
  pub words : l ≡ front kind start ++ names

pub parsed : (l : List (List ℕ)) → (l ≡ [] → ⊥) → Follows Nothing l → Parsed l
parsed [] n f = absurd (n refl)
parsed (w ∷ l) n f = by_kind (word_of w) refl f.0.may (means w f.0.word) f.2
  where
    -- after a leading `::`
    led : (l : List (List ℕ)) → Follows Nothing (w ∷ l) → w ≡ [] → AllNames l → Parsed (w ∷ l)
    led [] f t a = absurd (f.1 refl t)
    led (v ∷ l) f t a = record { kind = Abs; start = []; names = v ∷ l; starts = absolute; named = a; some = filled; words = ap (λ (x : List ℕ). x ∷ v ∷ l) t }

    by_kind : (k : WordKind) → word_of w ≡ k → stands Nothing k ≡ true → Means k w → Follows (after (word_of w)) l → Parsed (w ∷ l)
    by_kind word.Empty z m t r = led l f t (names-of l (subst (λ k. Follows (after k) l) z r))
    by_kind word.Crate z m t r = record { kind = Crate; start = codes "crate" ∷ []; names = l; starts = crate; named = names-of l (subst (λ k. Follows (after k) l) z r); some = filled; words = ap (λ (x : List ℕ). x ∷ l) t }
    by_kind word.Own z m t r =
        let u = ups-of l (subst (λ k. Follows (after k) l) z r) in
        record { kind = Super u.count; start = codes "self" ∷ supers u.count; names = u.names; starts = own; named = u.named; some = filled; words = ap (λ (x : List ℕ). x ∷ l) t ∙ ap (λ (x : List (List ℕ)). codes "self" ∷ x) u.spelled }
    by_kind word.Super z m t r =
        let u = ups-of l (subst (λ k. Follows (after k) l) z r) in
        record { kind = Super (suc u.count); start = supers (suc u.count); names = u.names; starts = above; named = u.named; some = filled; words = ap (λ (x : List ℕ). x ∷ l) t ∙ ap (λ (x : List (List ℕ)). codes "super" ∷ x) u.spelled }
    by_kind word.Name z m t r = record { kind = Plain; start = []; names = w ∷ l; starts = plain; named = (t, names-of l (subst (λ k. Follows (after k) l) z r)); some = filled; words = refl }
    by_kind _ z m t r = no m

-- so the paths are the texts whose words can follow one another
pub line-path : (bs : List ℕ) → Line Nothing bs → IsPath bs
line-path bs a =
    let p = parsed a.words a.some a.follows in
    record {
      kind = p.kind;
      names = p.names;
      reads = record { start = p.start; starts = p.starts; named = p.named; some = p.some; spelled = a.text ∙ ap joined p.words ∙ sym (spoken p.kind p.start p.names p.starts p.named p.some).spelled };
    }

pub reads-line : (bs : List ℕ) (k : PathKind) (ns : List (List ℕ)) (r : Reads bs k ns) → bs ≡ joined (front k r.start ++ ns)
reads-line bs k ns r = r.spelled ∙ (spoken k r.start ns r.starts r.named r.some).spelled

pub path-line : (bs : List ℕ) → IsPath bs → Line Nothing bs
path-line bs p =
    let r = p.reads in
    let s = spoken p.kind r.start p.names r.starts r.named r.some in
    record { words = front p.kind r.start ++ p.names; some = s.some; follows = s.follows; text = reads-line bs p.kind p.names r }

abbrev pub Judged : List ℕ → Option ℕ → Type 0
Judged bs o = MatchOption o (IsPath bs) (λ e. RefusedAt IsPath bs e)

judge : (bs : List ℕ) (o : Option ℕ) → Verdict Nothing bs 0 o → Judged bs o
judge bs None v = line-path bs v
judge bs (Some p) v =
    let e : 0 + v.at ≡ p = let z = v.is in omega arith in
    subst (RefusedAt IsPath bs) e (shift IsPath (Line Nothing) [] bs line-path path-line v.at v.inside (λ i l. absurd (omega arith)) v.refused)

pub judged : (bs : List ℕ) → Judged bs (stop_of bs)
judged bs = judge bs (stop_of bs) (verdict Nothing bs 0)

abbrev pub texts : List Piece → List (List ℕ)
texts ss = map (λ (s : Piece). s.text) ss

abbrev next_of : List (List ℕ) → Next
next_of [] = next.End
next_of (w ∷ l) = next.Word

-- the segments of the text that joins words, from n on
abbrev pub pieces : ℕ → List (List ℕ) → List Piece
pieces n [] = []
pieces n (w ∷ l) = piece w n (next_of l) ∷ pieces (n + length w + 2) l

pub in-pieces : (l : List (List ℕ)) (c : Before) (n : ℕ) → (l ≡ [] → ⊥) → Follows c l → segments n (joined l) ≡ pieces n l
in-pieces [] c n e f = absurd (e refl)
in-pieces (w ∷ []) c n e f = seg w [] n f.0.word tt
in-pieces (w ∷ v ∷ l) c n e f = seg w (58 ∷ 58 ∷ joined (v ∷ l)) n f.0.word refl ∙ ap (λ (t : List Piece). piece w n next.Word ∷ t) (in-pieces (v ∷ l) (after (word_of w)) (n + length w + 2) filled f.2)

pub texts-of : (l : List (List ℕ)) (n : ℕ) → texts (pieces n l) ≡ l
texts-of [] n = refl
texts-of (w ∷ l) n = ap (λ (t : List (List ℕ)). w ∷ t) (texts-of l (n + length w + 2))

-- what is told of segments is told of their texts
pub filter-texts : (p : List ℕ → Bool) (ss : List Piece) → texts (filter (λ s. p s.text) ss) ≡ filter p (texts ss)
filter-texts p [] = refl
filter-texts p (s ∷ ss) =
    elim (cases_Bool (p s.text)) [
      | inl e ↦ rw e (ap (λ (t : List (List ℕ)). s.text ∷ t) (filter-texts p ss))
      | inr e ↦ rw e (filter-texts p ss)
    ]

pub level-texts : (ss : List Piece) → level_in ss ≡ level (texts ss)
level-texts ss = sym (length-map (filter (λ (s : Piece). is_super (word_of s.text)) ss) (λ (s : Piece). s.text)) ∙ ap length (filter-texts (λ w. is_super (word_of w)) ss)

pub kind-texts : (ss : List Piece) → kind_in ss ≡ kind (texts ss)
kind-texts [] = refl
kind-texts (s ∷ ss) = ap (λ n. kind_by (start (texts (s ∷ ss))) n) (level-texts (s ∷ ss))
