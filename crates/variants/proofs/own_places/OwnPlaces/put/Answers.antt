use Rattle.std.proofs.Common.{◌≡◌, ◌<◌, length, take, arith, length-take-le}
use Rattle.variants.proofs.Rows.{written, appended}
use Rattle.variants.proofs.Tags.{written_tagged, appended_tagged}
use Rattle.variants.proofs.own_places.OwnPlaces.put.Goals as goal

pub invariant_of-self : goal.invariant_of-self
invariant_of-self g c = written_tagged g.T.Namespaced.space c.args.at c.args.name c.self.inside.rows c.args.self.now c.self.inside.firsts c.self.inside.used c.self.invariant c.self.view_is c.in-Some.index c.into_any.result c.in-Some.ensures

pub invariant_of-self-in-None : goal.invariant_of-self-in-None
invariant_of-self-in-None g c =
    let l : length (take c.self.inside.used c.self.inside.rows) < 64 = rw (← c.self.view_is) at c.requires in
    let e : length (take c.self.inside.used c.self.inside.rows) ≡ c.self.inside.used = length-take-le _ _ (omega arith) in
    appended_tagged g.T.Namespaced.space c.args.at c.args.name c.self.inside.rows c.self.inside.firsts c.self.inside.used c.self.invariant (omega arith) c.into_any.result c.tag-tag.result c.min.result c.tag-tag.ensures.value c.tag-tag.ensures.inside (omega arith) (omega arith)

pub returns-in-Some-clause-rows : goal.returns-in-Some-clause-rows
returns-in-Some-clause-rows g c = rw c.into_any.ensures (written g.T.Namespaced.space c.args.at c.args.name c.self.inside.rows _ _ (omega arith) c.self.view_is _ c.args.place c.in-Some.ensures)

pub returns-in-None-clause-rows : goal.returns-in-None-clause-rows
returns-in-None-clause-rows g c =
    let l : length (take c.self.inside.used c.self.inside.rows) < 64 = rw (← c.self.view_is) at c.requires in
    let e : length (take c.self.inside.used c.self.inside.rows) ≡ c.self.inside.used = length-take-le _ _ (omega arith) in
    rw c.into_any.ensures (appended g.T.Namespaced.space c.args.at c.args.name c.self.inside.rows _ _ c.args.place (omega arith) c.self.view_is c.in-None.ensures)
