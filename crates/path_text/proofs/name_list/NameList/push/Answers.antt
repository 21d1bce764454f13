use Rattle.std.proofs.Common.{◌≡◌, ℕ, ◌∷◌, ◌++◌, [], List, Bor, length, vec_items, sym, ap, ◌∙◌, subst, rules}
use Rattle.std.proofs.lemmas.List.{map-append, length-map}
use Rattle.path_text.specs.Numbers.{contents, IsNumbered, Numbers}
use Rattle.path_text.proofs.Growing.{grown}
use Rattle.path_text.proofs.name_list.NameList.push.Goals as goal

pub invariant_of-self-2 : goal.invariant_of-self-2
invariant_of-self-2 c =
    let old = vec_items c.self.inside.lines in
    let w = c.args.line.now in
    let m = c.number_line.new.numbers in
    let same : length (contents old) ≡ length old = length-map old (λ (s : Bor (List ℕ)). s.now) in
    let told = subst (λ (k : ℕ). Numbers c.self.inside.numbers w (record { 0 = k }) m) (search rules) c.in_ok-number_line.ensures.ok in
    let pushed : contents (vec_items c.push_reserved.new.self) ≡ contents old ++ w ∷ []
    = ap contents (c.push_reserved.ensures.items ∙ ap (λ (ss : List (Bor (List ℕ))). ss ++ c.args.line ∷ []) c.reserve.ensures.items)
    ∙ map-append (λ (s : Bor (List ℕ)). s.now) old (c.args.line ∷ []) in
    subst (λ (t : List (List ℕ)). IsNumbered t m) (sym pushed) (grown c.self.inside.numbers (contents old) w m c.self.invariant told)
