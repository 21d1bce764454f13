use Rattle.std.proofs.Common.{refl}
use Rattle.indexes.proofs.Ledgers.{inserted, inserted_found}
use Rattle.indexes.proofs.ledger_index.LedgerRowsPlaceRows.put.Goals as goal

pub invariant_of-self : goal.invariant_of-self
invariant_of-self g c = record {
  found_by_turn = inserted_found g.T.Namespaced.space c.args.self.now.table c.insert_new.new.self c.args.at c.args.name c.args.entry c.args.self.now.found_by_turn
      _ c.into_entry.result c.insert_new.result (rw (c.place_key.ensures, c.replay-place.ensures.turns) refl) c.insert_new.ensures.entries c.insert_new.ensures.err;
}

pub returns : goal.returns
returns g c =
    inserted g.T.Namespaced.space c.args.self.now.table c.insert_new.new.self c.args.at c.args.name c.args.entry c.args.self.now.found_by_turn
    c.replay-place.result.place c.step.result _ c.into_entry.result c.insert_new.result c.requires c.replay-place.ensures.place c.step.ensures
    (rw (c.place_key.ensures, c.replay-place.ensures.turns) refl) c.into_entry.ensures
    c.insert_new.ensures.present c.insert_new.ensures.full c.insert_new.ensures.entries c.insert_new.ensures.free
