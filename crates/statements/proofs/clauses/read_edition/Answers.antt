use Rattle.std.proofs.Common.{sym}
use Rattle.statements.proofs.Texts.{no_edition}
use Rattle.statements.proofs.clauses.read_edition.Goals as goal

-- The word's text is no edition's, or it has none.
pub returns-in-Err-clause-refused : goal.returns-in-Err-clause-refused
returns-in-Err-clause-refused c =
    no_edition _ _ c.in-Err.field-0 c.text_or_nothing.ensures (sym c.in-Err.ensures.value)
