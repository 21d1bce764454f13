use Rattle.std.proofs.Common.{refl, sym, ap, ◌∙◌}
use Rattle.entries.proofs.Climbs.{exit-falls}
use Rattle.path_resolution.proofs.Going.{rest, rest-turn, first-turn, next-turn, no-preludes, rest-final}
use Rattle.path_resolution.proofs.path_resolution.resolve_outward.Goals.{in_default-via-in-Some+else-not-asked, in_default-via-in_default}
use Rattle.path_resolution.proofs.path_resolution.resolve_outward.Goals as goal

pub outward-smaller : goal.outward-smaller
outward-smaller g c = (exit-falls _ _ (g.met.I.Tree.ruled c.args.index.now) _ _ c.in-Some.ensures.value).0

pub outward-init : goal.outward-init
outward-init g c =
    rest-turn _ _ (g.met.I.Index.tied c.args.index.now) _ _ _ _ _ _ (c.resolve_path_fp_with_macro_single-asked.ensures ∙ first-turn _ _ _ _ _) _ (g.met.I.Tree.ruled c.args.index.now) _ refl

pub outward-preserved : goal.outward-preserved
outward-preserved g c =
    let asks = c.ask.ensures ∙ next-turn _ _ _ _ _ c.outward.asked c.if-not-asked.true in
    rest-turn _ _ (g.met.I.Index.tied c.args.index.now) _ _ _ _ _ _ asks _ (g.met.I.Tree.ruled c.args.index.now) _ refl
    ∙ ap (rest (g.I.Index.view c.args.index.now) c.args.question c.args.kind c.args.names.now c.outward.asked c.outward.here) c.in-Some.ensures.value
    ∙ c.outward.invariant

pub returns-in_default : goal.returns-in_default
returns-in_default g c =
    let v = g.I.Index.view c.args.index.now in
    elim c.in_default.branch [
      | in_default-via-in-Some+else-not-asked w ↦
          c.ask_preludes.ensures.answer ∙ no-preludes v _ _ _ c.outward.asked w.if-not-asked.false _
          ∙ sym (rest-final v c.args.question c.args.kind c.args.names.now c.outward.asked w.if-not-asked.false c.outward.here _) ∙ c.outward.invariant
      | in_default-via-in_default w ↦ c.ask_preludes.ensures.answer ∙ ap (rest v c.args.question c.args.kind c.args.names.now c.outward.asked c.outward.here) w.in_default.ensures.value ∙ c.outward.invariant
    ]
