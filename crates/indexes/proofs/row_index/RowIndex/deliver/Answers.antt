use Rattle.std.proofs.Common.{length, sym, ◌∙◌, subst}
use Rattle.item_scope.specs.Views.{Sound}
use Rattle.item_scope.proofs.Taken.{delivered_sound}
use Rattle.index_tables.specs.LoadedTables.{data_of}
use Rattle.indexes.specs.Told.{view_of}
use Rattle.indexes.specs.Storing.{told}
use Rattle.indexes.proofs.Taken.{accepted, takes}
use Rattle.indexes.proofs.row_index.RowIndex.deliver.Goals as goal

pub arrive_all-requires : goal.arrive_all-requires
arrive_all-requires g c =
    let before = g.R.PlaceRows.contents c.args.self.now.rows in
    let v = view_of (data_of c.args.self.now.tables) (told g.R.PlaceRows.storing before.entries) in
    (accepted v (length before.free) c.args.delivery (sym c.refusal.ensures ∙ c.in_default.is)).1

pub invariant_of-self : goal.invariant_of-self
invariant_of-self g c =
    let before = g.R.PlaceRows.contents c.args.self.now.rows in
    let v = view_of (data_of c.args.self.now.tables) (told g.R.PlaceRows.storing before.entries) in
    let fits = (accepted v (length before.free) c.args.delivery (sym c.refusal.ensures ∙ c.in_default.is)).0 in
    record {
      sound = subst Sound (sym (c.arrive_all.ensures.told (data_of c.args.self.now.tables))) (delivered_sound v c.args.delivery fits c.args.self.now.sound);
    }

pub returns-clause-takes : goal.returns-clause-takes
returns-clause-takes g c =
    let s = g.R.PlaceRows.storing in
    let before = g.R.PlaceRows.contents c.args.self.now.rows in
    let after = g.R.PlaceRows.contents c.arrive_all.new.rows in
    let f = data_of c.args.self.now.tables in
    let v = view_of f (told s before.entries) in
    takes v (view_of f (told s after.entries)) (length before.free) (length after.free) c.args.delivery c.arrive_all.result s.each (told s before.entries) (sym c.refusal.ensures ∙ c.in_default.is) (c.arrive_all.ensures.changed f) (c.arrive_all.ensures.told f) c.arrive_all.ensures.stores.left
