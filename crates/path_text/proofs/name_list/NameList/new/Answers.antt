use Rattle.std.proofs.Common.{sym, rules}
use Rattle.path_text.proofs.Judged.{fits, misfit}
use Rattle.path_text.proofs.name_list.NameList.new.Goals as goal

pub returns-in_err-filled-in-None-clause-memory : goal.returns-in_err-filled-in-None-clause-memory
returns-in_err-filled-in-None-clause-memory c = let f = fits c.args.bytes.now c.args.names (sym c.in-None.ensures) in search rules

pub returns-in-Some-clause-refused : goal.returns-in-Some-clause-refused
returns-in-Some-clause-refused c = misfit c.args.bytes.now c.args.names c.in-Some.line (sym c.in-Some.ensures)

pub returns-in_ok-filled-in-None-clause-accepted : goal.returns-in_ok-filled-in-None-clause-accepted
returns-in_ok-filled-in-None-clause-accepted c = fits c.args.bytes.now c.args.names (sym c.in-None.ensures)
