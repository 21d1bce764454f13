use Rattle.std.proofs.Common.{rules, sym, subst}
use Rattle.std.proofs.lemmas.Result.{MatchResult-from_err}
use Rattle.entries.specs.declared.visibility.Visibility.{Visibility}
use Rattle.file_reader.specs.Named.{Tells}
use Rattle.statements.specs.declared.clauses.RawVisibility.{RawVisibility}
use Rattle.file_reader.proofs.Refused.{none_told}
use Rattle.file_reader.proofs.reader.Reader.visibility.Goals as goal

pub returns-in_err-named-in-In-clause-tells : goal.returns-in_err-named-in-In-clause-tells
returns-in_err-named-in-In-clause-tells c =
    MatchResult-from_err c.from_residual.result _ _ (search rules)
    (λ y. subst (λ (r : RawVisibility). (v : Visibility) → ¬ (Tells c.args.self.now.by_name c.args.at r v)) (sym c.in-In.is)
    (none_told c.args.self.now.by_name c.args.at c.in-In.word c.in_err-named-in-In.ensures.named))
