-- Where words stand in a text.
use Rattle.std.proofs.Common.{arith, ◌≡◌, ℕ, ◌+◌, ◌≤◌, not, List, [], ◌∷◌, length, drop, take, Some, All, true, false, refl, sym, subst, ap, ◌∙◌}
use Rattle.std.proofs.Math.Numerals.{one-add}
use Rattle.std.proofs.lemmas.Bool.{cond_both}
use Rattle.std.proofs.lemmas.List.{length-drop, length-take-le}
use Rattle.std.proofs.lemmas.List.Elements.{All-head}
use Rattle.std.proofs.lemmas.List.Sums.{prefix_len-le-length}
use Rattle.memchr.proofs.lemmas.CallerLemmas.{All-rmatches}
use Rattle.memchr.specs.Find as find
use Rattle.std.specs.List.{position_or_len, before_first}
use Rattle.source_text.specs.Words.{is_blank, blanks, first_word}
use Rattle.statements.specs.Names.{colons, last_colons}

-- the blanks before a word and what stands from it on are the whole text
pub blanks_and_rest : (text : List ℕ) → blanks text + length (drop (blanks text) text) ≡ length text
blanks_and_rest text =
    omega (arith, prefix_len-le-length (λ b. not (not (is_blank b))) text, length-drop (blanks text) text)

-- where no word comes, nothing but blanks is left
pub no_word : (text : List ℕ) → first_word text ≡ [] → length (drop (blanks text) text) ≡ 0
no_word [] = λ e. refl
no_word (b ∷ bs) =
    let Gone : ℕ → Type 0 = λ n. before_first is_blank (drop n (b ∷ bs)) ≡ [] → length (drop n (b ∷ bs)) ≡ 0 in
    cond_both (not (not (is_blank b))) (1 + blanks bs) 0 Gone
    (λ blank. subst Gone (sym (one-add (blanks bs))) (no_word bs))
    (λ other. cond_both (not (is_blank b)) (1 + position_or_len is_blank bs) 0 (λ n. take n (b ∷ bs) ≡ [] → length (b ∷ bs) ≡ 0)
    (λ word e. let some : b ∷ take (position_or_len is_blank bs) bs ≡ [] = ap (λ n. take n (b ∷ bs)) (sym (one-add (position_or_len is_blank bs))) ∙ e in absurd (cc))
    (λ blank e. let same : true ≡ false = sym (ap not blank) ∙ other in absurd (cc)))

first_in : (text : List ℕ) (places : List ℕ) → All (find.OccursAt text colons) places → (k : ℕ) → find.first_of places ≡ Some k
    → k ≤ length text
unfolding find.first_of
first_in text [] all k e = absurd (cc)
first_in text (x ∷ xs) all k e =
    let same : x ≡ k = cc in
    let here = All-head (find.OccursAt text colons) x xs all in
    omega (arith, same, here.fits)

-- as many bytes stand before the last `::` as its place says
pub before_colons : (text : List ℕ) (k : ℕ) → last_colons text ≡ Some k → length (take k text) ≡ k
before_colons text k e = length-take-le k text (first_in text _ (All-rmatches text colons (length text)) k e)
