use Rattle.std.proofs.Common.{◌≡◌, ◌+◌, ◌∷◌, [], List, length, sym, ap, ◌∙◌, subst, rules}
use Rattle.std.proofs.lemmas.Slice.Eq.{strip_prefix_is}
use Rattle.std.proofs.lemmas.Bool.Decides.{Decides-eqb}
use Rattle.path_text.specs.Grammar.{Inners}
use Rattle.path_text.specs.Words.{NoInner}
use Rattle.path_text.specs.Segments.{Piece, piece, segments_from}
use Rattle.path_text.specs.Left.{segments_left}
use Rattle.path_text.proofs.Cut.{first-segment, same-left, inners-take, ended-drop}
use Rattle.path_text.proofs.segment.SegmentsIterator.next.Goals as goal
use Rattle.path_text.proofs.segment.SegmentsIterator.next.Goals.{then-is_some, else-is_some}

pub returns-clause-steps : goal.returns-clause-steps
returns-clause-steps c =
    let bs = c.in_ok-rest.rest.now in
    let n = c.args.self.now.place in
    let m = c.word_len.result in
    let o = c.strip_prefix-self.result in
    let w = c.split_at.result.0.now in
    let a = c.split_at.result.1.now in
    let inners : Inners w = subst Inners (sym c.split_at.ensures.front) (inners-take bs m c.word_len.ensures.within c.word_len.ensures.word) in
    let ended : NoInner a = subst NoInner (sym c.split_at.ensures.back) (ended-drop bs m c.word_len.ensures.ended) in
    let here = first-segment bs w a n o c.split_at.ensures.by_index.0 inners ended (strip_prefix_is Decides-eqb a (58 ∷ 58 ∷ []) o c.strip_prefix-self.ensures.cases) in
    let left : segments_from o (n + length w + 2) ≡ segments_left c.if-is_some.self
    = elim c.if-is_some.branch [
      | then-is_some v ↦ ap segments_left (sym v.self-is)
      | else-is_some v ↦ same-left o _ n (search rules) ∙ ap segments_left (sym v.self-is)
    ] in
    ap (λ r. segments_from r n) c.in_ok-rest.was ∙ here
    ∙ ap (λ x. piece w n x ∷ segments_from o (n + length w + 2)) (sym c.next_at.ensures)
    ∙ ap (λ (t : List Piece). piece w n c.next_at.result ∷ t) left

pub returns-clause-goes : goal.returns-clause-goes
returns-clause-goes c = let shorter = ap length (returns-clause-steps c) in search rules
