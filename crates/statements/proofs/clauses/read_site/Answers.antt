use Rattle.std.proofs.Common.{ap, sym, subst, ◌∙◌}
use Rattle.source_text.specs.Words.{after_word}
use Rattle.statements.proofs.Refusals.{then_err}
use Rattle.statements.proofs.clauses.read_site.Goals as goal
use Rattle.statements.specs.Spelling.{IsWithin}

-- No module and visibility stand after the name and `in`.
pub returns-clause-refused : goal.returns-clause-refused
returns-clause-refused c =
    let two = c.keyword.ensures.rest ∙ ap after_word c.expect.ensures.rest in
    then_err c.site_within.result (λ none s h. none s.«module» s.vis (subst (IsWithin s.«module» s.vis) (sym two) h.1.1))
    c.site_within.ensures.refused
