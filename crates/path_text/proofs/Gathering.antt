-- What the words tell one by one is what they tell together.
use Rattle.std.proofs.Common.{◌≡◌, ℕ, zero, suc, ◌+◌, ◌<◌, ◌≤◌, List, [], ◌∷◌, ◌++◌, length, take, set, sym, refl, ap, ◌∙◌, arith, length-append, Bool, true, false, cond, ltb, fold, is_none, Some, None, Ok, Err, Option, Result, subst, append-nil, append_assoc, add-zero, inl, inr}
use lib.Seq.{take-append-le}
use Rattle.std.proofs.lemmas.List.{take_all, take_more_set, length-take-le}
use Rattle.std.proofs.lemmas.List.Elements.{filter-append, filter_map-append}
use Rattle.std.specs.Option.{option_or}
use Rattle.std.specs.List.{cons_option}
use Rattle.std.proofs.lemmas.Bool.{cases_Bool, ltb-false}
use Rattle.hir_def.specs.declared.Name.{Name}
use Rattle.hir_def.specs.declared.fault.TextFault.{TextFault}
use Rattle.path_text.specs.declared.mod_path.PathKind.{PathKind}
use Rattle.path_text.specs.declared.read.Gathered.{Gathered}
use Rattle.path_text.specs.Segments.{Piece, word_of, is_name, segments}
use Rattle.path_text.specs.Language.{is_super}
use Rattle.path_text.specs.Paths.{names_in, level_in, start_in, kind_by, number_of, listed_in, unlisted_in, counts_of, allowed, read_words, read_of}
use Rattle.path_text.specs.Gathered.{nothing, kept, with_segment, gathered_of}
use Rattle.path_text.specs.Texts.{stop_of, unless_stopped}

pub kept_more : {A : Type 0} (xs : List A) (k n : ℕ) (x : A) → k < length xs → k < n → take (k + 1) (set xs k x) ≡ take n (take k xs ++ x ∷ [])
kept_more xs k n x h l =
    let e : length (take k xs) ≡ k = length-take-le k xs (omega arith) in
    let few : length (take k xs ++ x ∷ []) ≤ n = omega (arith, length-append (take k xs) (x ∷ [])) in
    take_more_set xs k x h ∙ sym (take_all n (take k xs ++ x ∷ []) few)

pub kept_full : {A : Type 0} (v : List A) (n : ℕ) (x : A) → length v ≡ n → v ≡ take n (v ++ x ∷ [])
kept_full v n x e = sym (take-append-le n v (x ∷ []) (omega arith) ∙ take_all n v (omega arith))

-- what is kept of a front does not matter to what is kept of the whole
pub take-front : {A : Type 0} (n : ℕ) (xs r : List A) → take n (take n xs ++ r) ≡ take n (xs ++ r)
take-front zero xs r = refl
take-front (suc n) [] r = refl
take-front (suc n) (x ∷ xs) r = ap (λ t. x ∷ t) (take-front n xs r)

module _ (ls : List (List ℕ)) where
  -- what words tell together
  record Tells (ss : List Piece) (g : Gathered) : Type 0 where
    start : g.start ≡ start_in ss
    level : g.level ≡ level_in ss
    names : g.names ≡ length (names_in ss)
    unlisted : g.unlisted ≡ unlisted_in ls (names_in ss)
    numbers : g.numbers ≡ take 64 (listed_in ls (names_in ss))

  start-push : (ss : List Piece) (s : Piece) → start_in (ss ++ s ∷ []) ≡ option_or (start_in ss) (Some (word_of s.text))
  start-push [] s = refl
  start-push (x ∷ ss) s = refl

  unlisted-push : (ss : List Piece) (s : Piece) → unlisted_in ls (ss ++ s ∷ []) ≡ option_or (unlisted_in ls ss) (unlisted_in ls (s ∷ []))
  unlisted-push [] s = refl
  unlisted-push (x ∷ ss) s = elim (cases_Bool (is_none (number_of ls x))) [ inl e ↦ rw e | inr e ↦ rw e (unlisted-push ss s) ]

  numbers-push : (xs : List Name) (o : Option Name) → kept (take 64 xs) o ≡ take 64 (xs ++ cons_option o [])
  numbers-push xs None = ap (take 64) (sym (append-nil xs))
  numbers-push xs (Some n) = take-front 64 xs (n ∷ [])

  -- and with one more word
  push : (ss : List Piece) (s : Piece) (g : Gathered) → Tells ss g → Tells (ss ++ s ∷ []) (with_segment ls g s)
  push ss s g t =
      let start = ap (λ o. option_or o (Some (word_of s.text))) t.start ∙ sym (start-push ss s) in
      let more : names_in (ss ++ s ∷ []) ≡ names_in ss ++ names_in (s ∷ []) = filter-append (λ s. is_name (word_of s.text)) ss (s ∷ []) in
      let level : cond (is_super (word_of s.text)) (g.level + 1) g.level ≡ level_in (ss ++ s ∷ [])
      = rw (filter-append (λ s. is_super (word_of s.text)) ss (s ∷ []), length-append, t.level)
      (elim (cases_Bool (is_super (word_of s.text))) [ inl e ↦ rw e | inr e ↦ rw e (sym (add-zero (level_in ss))) ]) in
      elim (cases_Bool (is_name (word_of s.text))) [
        | inl e ↦
            let f : names_in (ss ++ s ∷ []) ≡ names_in ss ++ s ∷ [] = more ∙ rw e in
            record {
              start = start;
              level = level;
              names = rw (e, f, t.names) (sym (length-append (names_in ss) (s ∷ [])));
              unlisted = rw (e, f, t.unlisted) (sym (unlisted-push (names_in ss) s));
              numbers = rw (e, f, t.numbers, filter_map-append) (numbers-push (listed_in ls (names_in ss)) (number_of ls s));
            }
        | inr e ↦
            let f : names_in (ss ++ s ∷ []) ≡ names_in ss = more ∙ rw e (append-nil (names_in ss)) in
            record { start = start; level = level; names = rw (e, f) t.names; unlisted = rw (e, f) t.unlisted; numbers = rw (e, f) t.numbers }
      ]

  all : (ss pre : List Piece) (g : Gathered) → Tells pre g → Tells (pre ++ ss) (fold (with_segment ls) g ss)
  all [] pre g t = subst (λ (ss : List Piece). Tells ss g) (sym (append-nil pre)) t
  all (s ∷ ss) pre g t =
      subst (λ (u : List Piece). Tells u (fold (with_segment ls) (with_segment ls g s) ss)) (append_assoc pre (s ∷ []) ss)
      (all ss (pre ++ s ∷ []) (with_segment ls g s) (push pre s g t))

  few-listed : (ss : List Piece) → length (listed_in ls ss) ≤ length ss
  few-listed [] = omega arith
  few-listed (s ∷ ss) = more (number_of ls s) (few-listed ss)
    where
      more : (o : Option Name) → length (listed_in ls ss) ≤ length ss → length (cons_option o (listed_in ls ss)) ≤ suc (length ss)
      more None h = omega arith
      more (Some n) h = omega arith

-- what is within the counts
pub counts_ok : (n l : ℕ) (o : Option ℕ) (u : Unit {0}) → counts_of n l o ≡ Ok u → (n ≤ 64) × (l ≤ 255) × (o ≡ None)
counts_ok n l o u e = at o (ltb 64 n) (ltb 255 l) refl refl e
  where
    at : (o : Option ℕ) (a b : Bool) → ltb 64 n ≡ a → ltb 255 l ≡ b → counts_of n l o ≡ Ok u → (n ≤ 64) × (l ≤ 255) × (o ≡ None)
    at None false false x y e = (ltb-false 64 n x, ltb-false 255 l y, refl)
    at (Some p) false false x y e = let f = rw (x, y) at e in absurd (let z : ◌≡◌ {A = ℕ} 0 1 = cc in omega arith)
    at o false true x y e = let f = rw (x, y) at e in absurd (let z : ◌≡◌ {A = ℕ} 0 1 = cc in omega arith)
    at o true b x y e = let f = rw x at e in absurd (let z : ◌≡◌ {A = ℕ} 0 1 = cc in omega arith)

allowed-same : (r : Result (Unit {0}) TextFault) (p q : PathKind × List Name) → ((u : Unit {0}) → r ≡ Ok u → p ≡ q) → allowed r p ≡ allowed r q
allowed-same (Ok u) p q h = ap Ok (h u refl)
allowed-same (Err f) p q h = refl

pub read_words_told : (ls : List (List ℕ)) (ss : List Piece) (g : Gathered) → fold (with_segment ls) nothing ss ≡ g → read_words ls ss ≡ allowed (counts_of g.names g.level g.unlisted) (kind_by g.start g.level, g.numbers)
read_words_told ls ss g e =
    let t = subst (Tells ls ss) e (all ls ss [] nothing (record { start = refl; level = refl; names = refl; unlisted = refl; numbers = refl })) in
    rw (t.level, t.names, t.unlisted, t.start, t.numbers)
    (allowed-same (counts_of (length (names_in ss)) (level_in ss) (unlisted_in ls (names_in ss))) _ _
    (λ u z.
    let few = (counts_ok (length (names_in ss)) (level_in ss) (unlisted_in ls (names_in ss)) u z).0 in
    let h = few-listed ls (names_in ss) in
    ap (λ (ns : List Name). (kind_by (start_in ss) (level_in ss), ns)) (sym (take_all 64 (listed_in ls (names_in ss)) (omega arith)))))

pub read_told : (ls : List (List ℕ)) (text : List ℕ) (g : Gathered) → gathered_of ls text ≡ Ok g → read_of ls text ≡ allowed (counts_of g.names g.level g.unlisted) (kind_by g.start g.level, g.numbers)
read_told ls text g e = by-stop (stop_of text) e
  where
    by-stop : (o : Option ℕ) → unless_stopped o (Ok (fold (with_segment ls) nothing (segments 0 text))) ≡ Ok g → unless_stopped o (read_words ls (segments 0 text)) ≡ allowed (counts_of g.names g.level g.unlisted) (kind_by g.start g.level, g.numbers)
    by-stop None e = read_words_told ls (segments 0 text) g (let z : fold (with_segment ls) nothing (segments 0 text) ≡ g = cc in z)
    by-stop (Some p) e = absurd (let y : ◌≡◌ {A = ℕ} 0 1 = cc in omega arith)
