-- What is written is read by the grammar.
use Rattle.std.proofs.Common.{◌≡◌, ℕ, zero, suc, Bool, true, List, [], ◌∷◌, ◌++◌, Some, codes, sym, refl, ap, ◌∙◌, subst, append_assoc}
use Rattle.hir_def.specs.declared.Name.{Name}
use Rattle.path_text.specs.declared.mod_path.PathKind.{PathKind}
use Rattle.path_text.specs.declared.mod_path.PathKind.TheVariants.{Super}
use Rattle.path_text.specs.Grammar.{supers, joined_to, Names, Starts, plain, absolute, crate, own, above, Reads}
use Rattle.path_text.specs.Written.{gap, start_text, leads, names_text, one_word, after, written_of, Lined, Spells}
use Rattle.path_text.proofs.Follow.{filled}

-- the names as text, after what they are joined to
as_text : Bool → List (List ℕ) → List ℕ
as_text led [] = []
as_text led (w ∷ ws) = gap led ++ w ++ joined_to ws

lines : (ls : List (List ℕ)) (led : Bool) (ns : List Name) (ws : List (List ℕ)) → Lined ls ns ws → names_text ls led ns ≡ Some (as_text led ws)
unfolding as_text
lines ls led [] [] h = refl
lines ls led [] (w ∷ ws) h = absurd h
lines ls led (n ∷ ns) [] h = absurd h
lines ls led (n ∷ ns) (w ∷ []) (e, h) = ap (λ o. one_word led o (names_text ls true ns)) e ∙ ap (one_word led (Some w)) (lines ls true ns [] h)
lines ls led (n ∷ ns) (w ∷ v ∷ ws) (e, h) = ap (λ o. one_word led o (names_text ls true ns)) e ∙ ap (one_word led (Some w)) (lines ls true ns (v ∷ ws) h)

joined_to-append : (a b : List (List ℕ)) → joined_to (a ++ b) ≡ joined_to a ++ joined_to b
joined_to-append [] b = refl
joined_to-append (w ∷ a) b = ap (λ (q : List ℕ). 58 ∷ 58 ∷ (w ++ q)) (joined_to-append a b) ∙ ap (λ (q : List ℕ). 58 ∷ 58 ∷ q) (sym (append_assoc w (joined_to a) (joined_to b)))

led_text : (ws : List (List ℕ)) → as_text true ws ≡ joined_to ws
unfolding as_text
led_text [] = refl
led_text (w ∷ ws) = refl

-- a path up from a module
up : (n : ℕ) (ws : List (List ℕ)) → Names ws → Reads (start_text (Super (suc n)) ++ as_text true ws) (Super (suc n)) ws
unfolding as_text
up n ws a =
    let e = append_assoc (codes "super") (joined_to (supers n)) (as_text true ws) ∙ ap (λ (q : List ℕ). codes "super" ++ q) (ap (λ (q : List ℕ). joined_to (supers n) ++ q) (led_text ws) ∙ sym (joined_to-append (supers n) ws)) in
    record { start = supers (suc n); starts = above; named = a; some = filled; spelled = e }

text_of : (kind : PathKind) (st ws : List (List ℕ)) → Starts kind st → Names ws → (st ++ ws ≡ [] → ⊥) → Reads (start_text kind ++ as_text (leads kind) ws) kind ws
unfolding as_text
text_of k st [] plain a e = absurd (e refl)
text_of k st (w ∷ ws) plain a e = record { start = []; starts = plain; named = a; some = filled; spelled = refl }
text_of k st [] absolute a e = absurd (e refl)
text_of k st (w ∷ ws) absolute a e = record { start = []; starts = absolute; named = a; some = filled; spelled = refl }
text_of k st ws crate a e = record { start = codes "crate" ∷ []; starts = crate; named = a; some = filled; spelled = ap (λ (q : List ℕ). codes "crate" ++ q) (led_text ws) }
text_of k st ws (own {n = zero}) a e = record { start = codes "self" ∷ []; starts = own; named = a; some = filled; spelled = ap (λ (q : List ℕ). codes "self" ++ q) (led_text ws) }
text_of k st ws (own {n = suc n}) a e = up n ws a
text_of k st ws (above {n}) a e = up n ws a

pub spells : (ls : List (List ℕ)) (kind : PathKind) (ns : List Name) (t : List ℕ) → written_of ls kind ns ≡ Some t → Spells ls kind ns t
spells ls kind ns t e ws h u r =
    let f : Some (start_text kind ++ as_text (leads kind) ws) ≡ Some t = ap (after (start_text kind)) (sym (lines ls (leads kind) ns ws h)) ∙ e in
    let g : start_text kind ++ as_text (leads kind) ws ≡ t = cc in
    subst (λ (q : List ℕ). Reads q kind ws) g (text_of kind r.start ws r.starts r.named r.some)
