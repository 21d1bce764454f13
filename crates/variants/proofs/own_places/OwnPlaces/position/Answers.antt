use Rattle.std.proofs.Common.{◌≡◌, ℕ, ◌+◌, ◌-◌, ◌≤◌, length, drop, take, position, slice_index, List, Some, None, arith, sym, ap, ◌∙◌, length-take-le}
use Rattle.std.proofs.lemmas.List.{drop-take}
use Rattle.variants.specs.declared.own_places.OwnPlace.{OwnPlace}
use Rattle.variants.specs.Own.{is_of}
use Rattle.variants.specs.Tags.{NoneBefore}
use Rattle.variants.proofs.Tags.{found_from, found_nowhere}
use Rattle.variants.proofs.own_places.OwnPlaces.position.Goals as goal

-- the used rows from one on
rest : (rows now : List OwnPlace) (first used : ℕ) → first ≤ used → take used rows ≡ now → take (used - first) (drop first rows) ≡ drop first now
rest rows now first used l is =
    let e : first + (used - first) ≡ used = omega arith in
    sym (drop-take first (used - first) rows) ∙ ap (λ n. drop first (take n rows)) e ∙ ap (drop first) is

pub returns-then-first-self : goal.returns-then-first-self
returns-then-first-self g c =
    let o = c.self.inside in
    let none : NoneBefore c.args.self.now o.firsts = rw c.self.view_is at c.self.invariant.none_before in
    let used : length c.args.self.now ≡ o.used = ap length (sym c.self.view_is) ∙ length-take-le _ _ (omega arith) in
    let first = slice_index o.firsts c.tag.result in
    found_nowhere g.T.Namespaced.space c.args.at c.args.name c.args.self.now o.firsts none first (ap (slice_index o.firsts) c.tag.ensures.value) (omega arith)

pub returns-in_err-further : goal.returns-in_err-further
returns-in_err-further g c =
    let o = c.self.inside in
    let none : NoneBefore c.args.self.now o.firsts = rw c.self.view_is at c.self.invariant.none_before in
    let used : length c.args.self.now ≡ o.used = ap length (sym c.self.view_is) ∙ length-take-le _ _ (omega arith) in
    let first = slice_index o.firsts c.tag.result in
    let same = rest o.rows c.args.self.now first o.used (omega arith) c.self.view_is in
    c.from_residual.ensures ∙ found_from g.T.Namespaced.space c.args.at c.args.name c.args.self.now o.firsts none first (ap (slice_index o.firsts) c.tag.ensures.value) (omega arith) None (sym c.in_err-further.was ∙ c.position_in.ensures.index ∙ ap (position (is_of g.T.Namespaced.space c.args.at c.args.name)) same)

pub returns : goal.returns
returns g c =
    let o = c.self.inside in
    let none : NoneBefore c.args.self.now o.firsts = rw c.self.view_is at c.self.invariant.none_before in
    let used : length c.args.self.now ≡ o.used = ap length (sym c.self.view_is) ∙ length-take-le _ _ (omega arith) in
    let first = slice_index o.firsts c.tag.result in
    let same = rest o.rows c.args.self.now first o.used (omega arith) c.self.view_is in
    found_from g.T.Namespaced.space c.args.at c.args.name c.args.self.now o.firsts none first (ap (slice_index o.firsts) c.tag.ensures.value) (omega arith) (Some c.in_ok-further.further) (sym c.in_ok-further.was ∙ c.position_in.ensures.index ∙ ap (position (is_of g.T.Namespaced.space c.args.at c.args.name)) same)
