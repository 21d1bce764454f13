use Rattle.std.proofs.Common.{[]}
use Rattle.index_tables.proofs.Sound.{sound_tables}
use Rattle.indexes.proofs.Fresh.{fresh_sound}
use Rattle.indexes.proofs.row_index.RowIndex.load.Goals as goal

pub invariant_of-self-2 : goal.invariant_of-self-2
invariant_of-self-2 g c = record {
  sound = rw c.clear.ensures (fresh_sound _ (g.R.PlaceRows.storing.came []) g.met.R.PlaceRows.clean (sound_tables c.load.new.self));
}
