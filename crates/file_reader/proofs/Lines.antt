-- Lines are read one after the other.
use Rattle.std.proofs.Common.{◌≡◌, refl, subst, ℕ, suc, ◌<◌, List, [], ◌∷◌, ◌++◌, drop, get_or, length, map, take, Option, Some}
use Rattle.std.proofs.Math.Seq.{drop-cons}
use Rattle.std.proofs.lemmas.List.{take-append-drop}
use Rattle.std.proofs.lemmas.Iterator.{YieldsList}
use Rattle.std.proofs.lemmas.Iterator.Consumers.{YieldsList-so_far, YieldsList-turn}
use Rattle.std.specs.Iterator.{Yields}
use Rattle.std.specs.Borrow.{Bor}
use Rattle.file_reader.specs.Reading.{ReadsLine, ReadsLines, line_number}
use Rattle.file_reader.specs.Told.{Told}

-- one more, after those that are read
pub reads_more : (old mid new : Told) (ls : List (ℕ × List ℕ)) (l : ℕ × List ℕ) → ReadsLines old ls mid → ReadsLine (line_number l.0) l.1 mid new
    → ReadsLines old (ls ++ l ∷ []) new
unfolding ReadsLines
reads_more old mid new [] l h k = (new, subst (λ o. ReadsLine (line_number l.0) l.1 o new) h k, refl)
reads_more old mid new (x ∷ ls) l h k = (h.0, h.1, reads_more h.0 mid new ls l h.2 k)

-- a line with its number, as it is taken
abbrev pub line_at : ℕ × Bor (List ℕ) → ℕ × List ℕ
line_at p = (p.0, p.1.now)

-- those so far, the one that comes next, and those after it
parted : (all : List (ℕ × List ℕ)) (xs : List (ℕ × Bor (List ℕ))) (x : ℕ × Bor (List ℕ))
    → map line_at xs ≡ take (length xs) all → length xs < length all → line_at x ≡ get_or all (length xs) (line_at x)
    → all ≡ map line_at xs ++ line_at x ∷ drop (suc (length xs)) all
parted all xs x before within here =
    let parts : take (length xs) all ++ drop (length xs) all ≡ all = take-append-drop (length xs) all in
    let next : drop (length xs) all ≡ get_or all (length xs) (line_at x) ∷ drop (suc (length xs)) all = drop-cons all (length xs) (line_at x) within in
    cc

-- where the lines are taken in turn: those so far, the one that is taken, and those after it
pub line_taken : {S : Type 0} {steps : S → Option (ℕ × Bor (List ℕ)) → S → Type 0} {s : S} (all : List (ℕ × List ℕ))
    → YieldsList {B = ℕ × List ℕ} steps (λ p. (p.0, p.1.now)) s all
    → (xs : List (ℕ × Bor (List ℕ))) (t : S) → Yields steps s xs t
    → (r : Option (ℕ × Bor (List ℕ))) (u : S) (x : ℕ × Bor (List ℕ)) → r ≡ Some x → steps t r u
    → all ≡ map line_at xs ++ line_at x ∷ drop (suc (length xs)) all
line_taken all road xs t y r u x e k =
    let turn = YieldsList-turn road xs t y r u x e k in
    parted all xs x (YieldsList-so_far road xs t y) turn.0 turn.1
