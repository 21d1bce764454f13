use Rattle.std.proofs.Common.{Ok, Err, refl}
use Rattle.hir_def.specs.declared.fault.TreeFault.TheVariants.{BadRow}
use Rattle.nameres.specs.Rows.{rows_of}
use Rattle.nameres.proofs.Accepted.{accepted}
use Rattle.nameres.proofs.tree_table.TreeTable.load.Goals as goal

pub returns-in-Some-clause-accepted : goal.returns-in-Some-clause-accepted
returns-in-Some-clause-accepted c = accepted (rows_of c.args.tables) (Err (BadRow c.in-Some.row)) (refl, c.in-Some.ensures)

pub returns-clause-accepted : goal.returns-clause-accepted
returns-clause-accepted c = accepted (rows_of c.args.tables) (Ok tt) c.in_default.ensures
