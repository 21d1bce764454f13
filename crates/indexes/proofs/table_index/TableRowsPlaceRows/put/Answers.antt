use Rattle.indexes.proofs.Tables.{inserted, inserted_fits}
use Rattle.indexes.proofs.table_index.TableRowsPlaceRows.put.Goals as goal

pub invariant_of-self : goal.invariant_of-self
invariant_of-self g c = record {
  fits = inserted_fits g.T.Namespaced.space g.met.T.Namespaced.lawful c.args.self.now.table c.insert.new.self c.args.at c.args.name c.args.entry c.place_key.result c.into_entry.result c.insert.result
      c.args.self.now.fits c.place_key.ensures c.into_entry.ensures c.insert.ensures.entries c.insert.ensures.err;
}

pub returns-then-changed : goal.returns-then-changed
returns-then-changed g c =
    inserted g.T.Namespaced.space g.met.T.Namespaced.lawful c.args.self.now.table c.insert.new.self c.args.at c.args.name c.args.entry c.args.self.now.fits c.requires
    c.place.result c.step-changed.result c.place_key.result c.into_entry.result c.insert.result c.place.ensures c.step-changed.ensures c.place_key.ensures c.into_entry.ensures c.if-changed.true
    c.insert.ensures.before c.insert.ensures.full c.insert.ensures.entries c.insert.ensures.free
