-- Two paths that are written alike are one.
use Rattle.std.proofs.Common.{◌≡◌, ℕ, ◌<◌, ◌^◌, ◌==◌, true, false, List, [], ◌∷◌, ◌++◌, length, get_or, codes, refl, ap, sym, ◌∙◌, append_assoc, arith, inl}
use Rattle.std.specs.Fmt.{decimal}
use Rattle.std.specs.List.{AllByRecursion}
use Rattle.std.proofs.lemmas.Fmt.{decimal_injective, decimal_nonempty}
use Rattle.std.proofs.lemmas.List.{append_cancel_left, append-nil}
use Rattle.std.proofs.lemmas.Grind.{common_steps}
use Rattle.source_text.specs.Words.{lacks}
use Rattle.source_text.proofs.Cuts.{one_cut, lacks_not, first_is}
use Rattle.source_text.proofs.Decimals.{both, decimal_lacks}
use Rattle.hir_def.specs.declared.CrateId.{CrateId}
use Rattle.hir_def.specs.declared.Name.{Name}
use Rattle.path_text.specs.Laws.{level_of}
use Rattle.path_text.specs.declared.mod_path.PathKind.{PathKind}
use Rattle.path_text.specs.declared.mod_path.PathKind.TheVariants.{Plain, Super, Crate, Abs, DollarCrate}
use Rattle.paths.specs.Shown.{kind_word, kind_text, each_after, dotted, path_line}
use Rattle.paths.specs.Apart.{FitsKind, WordsApart, IsPlainlyTold, LinesApart}

heads : (x y : ℕ) (s t : List ℕ) → (x == y) ≡ false → ¬ (x ∷ s ≡ y ∷ t)
heads x y s t n e = let h : x ≡ y = ap (λ (l : List ℕ). get_or l 0 0) e in grind (arith, common_steps)

one_number : (front : List ℕ) (a b : ℕ) → a < 2 ^ 32 → b < 2 ^ 32 → front ++ decimal a ≡ front ++ decimal b → a ≡ b
one_number front a b h k e = decimal_injective a b (omega arith) (omega arith) (append_cancel_left front (decimal a) (decimal b) e)

crate_of : (a b : CrateId) → a.0 ≡ b.0 → a ≡ b
crate_of a b e = ap (λ (n : ℕ). let c : CrateId = record { 0 = n } in c) e

name_of : (a b : Name) → a.0 ≡ b.0 → a ≡ b
name_of a b e = ap (λ (n : ℕ). let c : Name = record { 0 = n } in c) e

kinds_apart : (k l : PathKind) → FitsKind k → FitsKind l → kind_text k ≡ kind_text l → k ≡ l
kinds_apart Plain Plain h k e = refl
kinds_apart Plain (Super n) h k e = absurd (heads 112 115 _ _ refl e)
kinds_apart Plain Crate h k e = absurd (heads 112 99 _ _ refl e)
kinds_apart Plain Abs h k e = absurd (heads 112 97 _ _ refl e)
kinds_apart Plain (DollarCrate d) h k e = absurd (heads 112 100 _ _ refl e)
kinds_apart (Super m) Plain h k e = absurd (heads 115 112 _ _ refl e)
kinds_apart (Super m) (Super n) h k e = ap Super (one_number (codes "super:") m n h k e)
kinds_apart (Super m) Crate h k e = absurd (heads 115 99 _ _ refl e)
kinds_apart (Super m) Abs h k e = absurd (heads 115 97 _ _ refl e)
kinds_apart (Super m) (DollarCrate d) h k e = absurd (heads 115 100 _ _ refl e)
kinds_apart Crate Plain h k e = absurd (heads 99 112 _ _ refl e)
kinds_apart Crate (Super n) h k e = absurd (heads 99 115 _ _ refl e)
kinds_apart Crate Crate h k e = refl
kinds_apart Crate Abs h k e = absurd (heads 99 97 _ _ refl e)
kinds_apart Crate (DollarCrate d) h k e = absurd (heads 99 100 _ _ refl e)
kinds_apart Abs Plain h k e = absurd (heads 97 112 _ _ refl e)
kinds_apart Abs (Super n) h k e = absurd (heads 97 115 _ _ refl e)
kinds_apart Abs Crate h k e = absurd (heads 97 99 _ _ refl e)
kinds_apart Abs Abs h k e = refl
kinds_apart Abs (DollarCrate d) h k e = absurd (heads 97 100 _ _ refl e)
kinds_apart (DollarCrate c) Plain h k e = absurd (heads 100 112 _ _ refl e)
kinds_apart (DollarCrate c) (Super n) h k e = absurd (heads 100 115 _ _ refl e)
kinds_apart (DollarCrate c) Crate h k e = absurd (heads 100 99 _ _ refl e)
kinds_apart (DollarCrate c) Abs h k e = absurd (heads 100 97 _ _ refl e)
kinds_apart (DollarCrate c) (DollarCrate d) h k e = ap DollarCrate (crate_of c d (one_number (codes "dollar:") c.0 d.0 h k e))

-- a number and numbers after it, each with such a byte before it
numbers_apart : (c a b : ℕ) (ns ms : List Name) → c < 48 → a < 2 ^ 32 → b < 2 ^ 32 → AllByRecursion (λ n. n.0 < 2 ^ 32) ns → AllByRecursion (λ n. n.0 < 2 ^ 32) ms → decimal a ++ each_after (c ∷ []) ns ≡ decimal b ++ each_after (c ∷ []) ms → (a ≡ b) × (ns ≡ ms)
numbers_apart c a b [] [] l h k f g e = (decimal_injective a b (omega arith) (omega arith) (sym (append-nil (decimal a)) ∙ e ∙ append-nil (decimal b)), refl)
numbers_apart c a b [] (m ∷ ms) l h k f g e =
    let x : lacks c (decimal b ++ c ∷ (decimal m.0 ++ each_after (c ∷ []) ms)) ≡ true = rw (sym e ∙ append-nil (decimal a)) (decimal_lacks c a (inl l) h) in
    let y = lacks_not c (decimal b) (decimal m.0 ++ each_after (c ∷ []) ms) in cc
numbers_apart c a b (n ∷ ns) [] l h k f g e =
    let x : lacks c (decimal a ++ c ∷ (decimal n.0 ++ each_after (c ∷ []) ns)) ≡ true = rw (e ∙ append-nil (decimal b)) (decimal_lacks c b (inl l) k) in
    let y = lacks_not c (decimal a) (decimal n.0 ++ each_after (c ∷ []) ns) in cc
numbers_apart c a b (n ∷ ns) (m ∷ ms) l h k f g e =
    let cut = one_cut c (decimal a) (decimal b) (decimal n.0 ++ each_after (c ∷ []) ns) (decimal m.0 ++ each_after (c ∷ []) ms) (decimal_lacks c a (inl l) h) (decimal_lacks c b (inl l) k) e in
    let more = numbers_apart c n.0 m.0 ns ms l f.0 g.0 f.1 g.1 cut.1 in
    let same = name_of n m more.0 in
    (decimal_injective a b (omega arith) (omega arith) cut.0, cc)

dash_apart : (ds more : List ℕ) → 0 < length ds → lacks 45 ds ≡ true → ¬ (codes "-" ≡ ds ++ more)
dash_apart [] more n l e = omega arith
dash_apart (d ∷ ds) more n l e = first_is 45 d ds l cc

no_dash : (n : Name) (ns : List Name) → n.0 < 2 ^ 32 → ¬ (codes "-" ≡ dotted (n ∷ ns))
no_dash n ns h e = dash_apart (decimal n.0) (each_after (codes ".") ns) (decimal_nonempty n.0 (omega arith)) (decimal_lacks 45 n.0 (inl (omega arith)) h) e

dotted_apart : (ns ms : List Name) → AllByRecursion (λ n. n.0 < 2 ^ 32) ns → AllByRecursion (λ n. n.0 < 2 ^ 32) ms → dotted ns ≡ dotted ms → ns ≡ ms
dotted_apart [] [] f g e = refl
dotted_apart [] (m ∷ ms) f g e = absurd (no_dash m ms g.0 e)
dotted_apart (n ∷ ns) [] f g e = absurd (no_dash n ns f.0 (sym e))
dotted_apart (n ∷ ns) (m ∷ ms) f g e =
    let r = numbers_apart 46 n.0 m.0 ns ms (omega arith) f.0 g.0 f.1 g.1 e in
    let same = name_of n m r.0 in
    let rest = r.1 in cc

kind_lacks : (k : PathKind) → FitsKind k → lacks 32 (kind_text k) ≡ true
kind_lacks Plain h = refl
kind_lacks (Super n) h = both 32 (codes "super:") (decimal n) refl (decimal_lacks 32 n (inl (omega arith)) h)
kind_lacks Crate h = refl
kind_lacks Abs h = refl
kind_lacks (DollarCrate c) h = both 32 (codes "dollar:") (decimal c.0) refl (decimal_lacks 32 c.0 (inl (omega arith)) h)

pub words_apart : (kind : PathKind) (names : List Name) → WordsApart kind names
words_apart kind names f k ns g e =
    let cut = one_cut 32 (kind_text k) (kind_text kind) (dotted ns) (dotted names) (kind_lacks k g.0) (kind_lacks kind f.0) (sym (append_assoc (kind_text k) (codes " ") (dotted ns)) ∙ e ∙ append_assoc (kind_text kind) (codes " ") (dotted names)) in
    (kinds_apart k kind g.0 f.0 cut.0, dotted_apart ns names g.1 f.1 cut.1)

word_lacks : (k : PathKind) → lacks 32 (kind_word k) ≡ true
word_lacks Plain = refl
word_lacks (Super n) = refl
word_lacks Crate = refl
word_lacks Abs = refl
word_lacks (DollarCrate c) = refl

told_apart : (k l : PathKind) → IsPlainlyTold k → IsPlainlyTold l → kind_word k ≡ kind_word l → level_of k ≡ level_of l → k ≡ l
told_apart Plain Plain h k e l = refl
told_apart Plain (Super n) h k e l = absurd (heads 112 115 _ _ refl e)
told_apart Plain Crate h k e l = absurd (heads 112 99 _ _ refl e)
told_apart Plain Abs h k e l = absurd (heads 112 97 _ _ refl e)
told_apart (Super m) Plain h k e l = absurd (heads 115 112 _ _ refl e)
told_apart (Super m) (Super n) h k e l = ap Super l
told_apart (Super m) Crate h k e l = absurd (heads 115 99 _ _ refl e)
told_apart (Super m) Abs h k e l = absurd (heads 115 97 _ _ refl e)
told_apart Crate Plain h k e l = absurd (heads 99 112 _ _ refl e)
told_apart Crate (Super n) h k e l = absurd (heads 99 115 _ _ refl e)
told_apart Crate Crate h k e l = refl
told_apart Crate Abs h k e l = absurd (heads 99 97 _ _ refl e)
told_apart Abs Plain h k e l = absurd (heads 97 112 _ _ refl e)
told_apart Abs (Super n) h k e l = absurd (heads 97 115 _ _ refl e)
told_apart Abs Crate h k e l = absurd (heads 97 99 _ _ refl e)
told_apart Abs Abs h k e l = refl
told_apart (DollarCrate c) k h p e l = absurd h
told_apart Plain (DollarCrate d) h p e l = absurd p
told_apart (Super n) (DollarCrate d) h p e l = absurd p
told_apart Crate (DollarCrate d) h p e l = absurd p
told_apart Abs (DollarCrate d) h p e l = absurd p

level_fits : (k : PathKind) → FitsKind k → level_of k < 2 ^ 32
level_fits Plain h = omega arith
level_fits (Super n) h = h
level_fits Crate h = omega arith
level_fits Abs h = omega arith
level_fits (DollarCrate c) h = omega arith

as_cut : (k : PathKind) (ns : List Name) → path_line k ns ≡ codes "path " ++ (kind_word k ++ 32 ∷ (decimal (level_of k) ++ each_after (codes " ") ns))
as_cut k ns = simp append_assoc refl

pub lines_apart : (kind : PathKind) (names : List Name) → LinesApart kind names
lines_apart kind names f p k ns g q e =
    let line = append_cancel_left (codes "path ") (kind_word k ++ 32 ∷ (decimal (level_of k) ++ each_after (codes " ") ns)) (kind_word kind ++ 32 ∷ (decimal (level_of kind) ++ each_after (codes " ") names)) (sym (as_cut k ns) ∙ e ∙ as_cut kind names) in
    let cut = one_cut 32 (kind_word k) (kind_word kind) (decimal (level_of k) ++ each_after (codes " ") ns) (decimal (level_of kind) ++ each_after (codes " ") names) (word_lacks k) (word_lacks kind) line in
    let numbers = numbers_apart 32 (level_of k) (level_of kind) ns names (omega arith) (level_fits k g.0) (level_fits kind f.0) g.1 f.1 cut.1 in
    (told_apart k kind q p cut.0 numbers.0, numbers.1)
