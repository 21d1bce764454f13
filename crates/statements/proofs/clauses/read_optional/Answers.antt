use Rattle.statements.proofs.Refusals.{may_not_say}
use Rattle.statements.proofs.clauses.read_optional.Goals as goal

-- A word comes, and it says none.
pub returns-in-Some-clause-refused : goal.returns-in-Some-clause-refused
returns-in-Some-clause-refused c =
    let text = c.args.words.now.words.rest.now in
    let word = c.in-Some.ensures.word in
    may_not_say text _ _ word.0 c.in-Some.ensures.rest _ word.3 c.visibility_of.ensures.refused
