use Rattle.std.proofs.Common.{[]}
use Rattle.indexes.proofs.Fresh.{fresh_sound}
use Rattle.index_tables.proofs.Sound.{sound_tables}
use Rattle.indexes.proofs.row_index.RowIndex.over.Goals as goal

pub invariant_of-result : goal.invariant_of-result
invariant_of-result g c = record {
  sound = rw c.requires (fresh_sound _ (g.R.PlaceRows.storing.came []) g.met.R.PlaceRows.clean (sound_tables c.in_ok-new.field-0));
}
