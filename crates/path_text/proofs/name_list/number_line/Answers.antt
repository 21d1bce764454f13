use Rattle.std.proofs.Common.{sym}
use Rattle.path_text.proofs.Growing.{anew}
use Rattle.path_text.proofs.name_list.number_line.Goals as goal

pub returns-in_ok-insert-clause-ok : goal.returns-in_ok-insert-clause-ok
returns-in_ok-insert-clause-ok c = anew c.args.numbers.now c.args.line.now c.args.number c.insert.new.self (sym c.if-not-contains_key.ensures) c.in_ok-insert.ensures.updates
