use Rattle.statements.proofs.Left.{one_too_many}
use Rattle.statements.proofs.statement.Statement.of.Goals as goal

-- A word is left after the statement.
pub returns-in_err-expect_end-clause-refused : goal.returns-in_err-expect_end-clause-refused
returns-in_err-expect_end-clause-refused c =
    let line = c.args.words.words.rest.now in
    let verb = c.in-Some.ensures.word in
    let read = c.in_ok-statement.ensures in
    one_too_many line _ _ _ c.in_ok-statement.statement verb.0 verb.3 c.next_word.ensures.rest read.spelt read.rest
    c.in_err-expect_end.ensures.refused _
