use Rattle.std.proofs.Common.{rules, vec_items}
use Rattle.firmware.specs.Piles.{top_of}
use Rattle.variants.specs.Variants.{below_of, own_in, view_in}
use Rattle.model_runs.specs.Made.{RanOver}
use Rattle.model_reports.specs.Results.{own_deliveries}
use Rattle.model_reports.proofs.Piled.{ran_over, has_pile}
use Rattle.model_reports.proofs.results.Results.of.Goals as goal

pub returns-clause-pile : goal.returns-clause-pile
returns-clause-pile g c =
    let f = c.args.survey.now.firmware.now in
    let p = c.args.model.now.pile in
    let made = c.in_ok-made.made in
    let below = g.I.Index.view c.args.below.now in
    let ran : RanOver below (own_deliveries f c.args.model.now) (vec_items made.outcomes) (own_in made.index) = search rules in
    has_pile f p below (view_in made.index) c.requires (ran_over f g.I.Index.view c.args.below.now (below_of made.index) (top_of p) (own_in made.index) (vec_items made.outcomes) ran c.in_ok-made.ensures.below.0)
