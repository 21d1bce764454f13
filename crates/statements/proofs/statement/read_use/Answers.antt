use Rattle.std.proofs.Common.{ap, sym, subst, ◌∙◌, List, ℕ}
use Rattle.source_text.specs.Words.{after_word}
use Rattle.source_text.specs.declared.words.Word.{Word}
use Rattle.statements.proofs.Refusals.{on_err}
use Rattle.statements.proofs.statement.read_use.Goals as goal
use Rattle.statements.specs.Spelling.{after_import_name, IsImport, IsWithin}
use Rattle.statements.specs.declared.clauses.Site.{Site}

-- No module and visibility stand after what is imported, its name and `in`.
pub returns-in_err-site_within-clause-refused : goal.returns-in_err-site_within-clause-refused
returns-in_err-site_within-clause-refused c =
    let text = c.args.words.now.words.rest.now in
    let named = ap (λ (t : List ℕ). after_word (after_import_name t)) c.expect.ensures.rest in
    let two = c.in_ok-name.ensures.rest ∙ named in
    let none : (f : Word) (s : Site) → ¬ (IsImport c.args.bringing f s text) = λ f s h.
    c.in_err-site_within.ensures.refused s.«module» s.vis (subst (IsWithin s.«module» s.vis) (sym two) h.2.1) in
    on_err _ none
