use Rattle.keyed.specs.Entries.{most_rows}
use Rattle.index_tables.proofs.Taking.{Taken}
use Rattle.index_tables.proofs.load_table.load_table.Given as goal

abbrev pub invariant-loop-i : goal.invariant-loop-i
invariant-loop-i g l = Taken g.K.PartialEq.eq (g.K.NumbersExist.exist l.counts) most_rows l.rows l.from l.i l.table.entries l.table.free
