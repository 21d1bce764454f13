-- One more word is written.
use Rattle.std.proofs.Common.{◌≡◌, ℕ, suc, ◌+◌, ◌-◌, ◌<◌, ◌≤◌, Bool, List, ◌++◌, Some, None, codes, Option, sym, refl, ap, ◌∙◌, append_assoc, append-nil, arith}
use Rattle.path_text.specs.Grammar.{supers, joined_to}
use Rattle.path_text.specs.Written.{gap, one_word, after}

word_after : (t g w u : List ℕ) → t ++ g ++ w ++ u ≡ t ++ (g ++ w ++ u)
word_after t g w u = append_assoc (t ++ g) w u ∙ append_assoc t g (w ++ u) ∙ ap (λ (q : List ℕ). t ++ q) (sym (append_assoc g w u))

super-more : (n i : ℕ) → i < n → joined_to (supers (n - i)) ≡ codes "::super" ++ joined_to (supers (n - (i + 1)))
super-more n i h =
    let one : n - i ≡ suc (n - (i + 1)) = omega (arith, h) in
    ap (λ (k : ℕ). joined_to (supers k)) one

pub one-super : (n i : ℕ) (all t next : List ℕ) → i < n → next ≡ t ++ codes "::super" → all ≡ t ++ joined_to (supers (n - i)) → all ≡ next ++ joined_to (supers (n - (i + 1)))
one-super n i all t next h e inv =
    inv ∙ ap (λ (q : List ℕ). t ++ q) (super-more n i h) ∙ sym (append_assoc t (codes "::super") (joined_to (supers (n - (i + 1)))))
    ∙ ap (λ (q : List ℕ). q ++ joined_to (supers (n - (i + 1)))) (sym e)

-- all of them are written
pub start-written : (n i : ℕ) (t word start once next : List ℕ) → n ≤ i → once ≡ t ++ word → word ++ joined_to (supers n) ≡ start → once ++ joined_to (supers n) ≡ next ++ joined_to (supers (n - i)) → next ≡ t ++ start
start-written n i t word start once next h e f inv =
    let none : 0 ≡ n - i = omega arith in
    sym (append-nil next) ∙ ap (λ (k : ℕ). next ++ joined_to (supers k)) none ∙ sym inv ∙ ap (λ (q : List ℕ). q ++ joined_to (supers n)) e
    ∙ append_assoc t word (joined_to (supers n)) ∙ ap (λ (q : List ℕ). t ++ q) f

pub one_line : (led : Bool) (t w : List ℕ) (r : Option (List ℕ)) → after t (one_word led (Some w) r) ≡ after (t ++ gap led ++ w) r
one_line led t w None = refl
one_line led t w (Some u) = ap Some (sym (word_after t (gap led) w u))
