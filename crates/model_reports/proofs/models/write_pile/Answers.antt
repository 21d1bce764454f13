use Rattle.variants.specs.Variants.{view_in}
use Rattle.model_reports.proofs.Piled.{made_over, on_any, on_one, on_two}
use Rattle.model_reports.proofs.models.write_pile.Goals as goal

pub write_model-requires : goal.write_model-requires
write_model-requires g c = on_any c.args.survey.now.firmware.now c.args.model.now.pile c.in-One.field-0 c.in-One.is (g.I.Index.view c.args.base.now)

pub write_model-requires-in-Two : goal.write_model-requires-in-Two
write_model-requires-in-Two g c =
    let f = c.args.survey.now.firmware.now in
    let base = c.args.base.now in
    let one = c.in_ok-first-in-Two in
    on_one f c.args.model.now.pile c.in-Two.first c.in-Two.field-1 c.in-Two.is (g.I.Index.view base) (view_in one.first)
    (made_over f g.I.Index.view base one.first.below.now c.in-Two.first one.first.own one.ensures.made one.ensures.below)

pub write_model-requires-in-Three : goal.write_model-requires-in-Three
write_model-requires-in-Three g c =
    let f = c.args.survey.now.firmware.now in
    let base = c.args.base.now in
    let one = c.in_ok-first-in-Three in
    let two = c.in_ok-second-in-Three in
    on_two f c.args.model.now.pile c.in-Three.first c.in-Three.second c.in-Three.field-2 c.in-Three.is (g.I.Index.view base) (view_in one.first) (view_in two.second)
    (made_over f g.I.Index.view base one.first.below.now c.in-Three.first one.first.own one.ensures.made one.ensures.below)
    (made_over f view_in one.first two.second.below.now c.in-Three.second two.second.own two.ensures.made two.ensures.below)
