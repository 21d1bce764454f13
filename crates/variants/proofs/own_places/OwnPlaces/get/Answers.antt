use Rattle.std.proofs.Common.{arith, ◌∙◌}
use Rattle.variants.proofs.Rows.{read, absent}
use Rattle.variants.proofs.own_places.OwnPlaces.get.Goals as goal

pub returns-in-Some : goal.returns-in-Some
returns-in-Some g c = c.from_any.ensures ∙ read g.T.Namespaced.space c.args.at c.args.name c.self.inside.rows _ _ (omega arith) c.self.view_is _ _ c.in-Some.ensures

pub returns-in-None : goal.returns-in-None
returns-in-None g c = absent g.T.Namespaced.space c.args.at c.args.name c.args.self.now c.in-None.ensures
