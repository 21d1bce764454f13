use Rattle.std.proofs.Common.{ap, ◌∙◌}
use Rattle.source_text.specs.Words.{first_word, after_word}
use Rattle.source_text.specs.declared.words.Word.{Word}
use Rattle.statements.proofs.Refusals.{on_err, no_says}
use Rattle.statements.proofs.clauses.site_within.Goals as goal
use Rattle.statements.specs.Spelling.{IsWithin}
use Rattle.statements.specs.declared.clauses.RawVisibility.{RawVisibility}

-- The words after the module say no visibility.
pub returns-in_err-vis-clause-refused : goal.returns-in_err-vis-clause-refused
returns-in_err-vis-clause-refused c =
    let text = c.args.words.now.words.rest.now in
    let one = c.expect.ensures.rest in
    let first = c.in_ok-word.ensures.word.0 ∙ ap first_word one in
    let after = c.expect-2.ensures.rest ∙ ap after_word one in
    let none : (at : Word) (vis : RawVisibility) → ¬ (IsWithin at vis text) = λ at vis h.
    no_says (after_word text) _ _ first after c.in_err-vis.ensures.refused vis h.1 in
    on_err _ none
