-- Where bytes are no text, no number stands there.
use Rattle.statements.proofs.Numbered.{without_text}
use Rattle.statements.proofs.names.numbered.Goals as goal

pub returns-in-Err-clause-none : goal.returns-in-Err-clause-none
returns-in-Err-clause-none c = without_text _ _ c.in_ok-digits.ensures.cases.1 c.in-Err.ensures.cases.0
