use Rattle.std.proofs.Common.{subst}
use Rattle.std.proofs.lemmas.Result.{err_from_is_err_and}
use Rattle.index_tables.specs.IndexRows.{lent_rows}
use Rattle.index_tables.specs.Loading.{PassesTests}
use Rattle.index_tables.proofs.Accepted.{taken, denied}
use Rattle.index_tables.proofs.loaded_tables.LoadedTables.load.Goals as goal

pub returns-in_err-loaded-clause-accepted : goal.returns-in_err-loaded-clause-accepted
returns-in_err-loaded-clause-accepted g c =
    let p = err_from_is_err_and c.from_residual.result c.from_residual.ensures.1 in
    rw (p.1, p.2) (denied (lent_rows c.args.tables) c.in_err-loaded.field-0.0 c.in_err-loaded.ensures.answers)

pub returns-clause-accepted : goal.returns-clause-accepted
returns-clause-accepted g c = taken (lent_rows c.args.tables) c.in_ok-loaded.ensures.answers (subst PassesTests c.in_ok-loaded.ensures.holds c.in_ok-loaded.loaded.good)
