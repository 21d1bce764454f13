use Rattle.std.proofs.Common.{rules, ◌≡◌}
use Rattle.model_wording.specs.Comparing.{comparison_of}
use Rattle.model_wording.proofs.Alone.{alone}
use Rattle.model_wording.proofs.Joined.{has_statement}
use Rattle.model_wording.proofs.comparison.Comparison.of.Goals as goal

pub returns-clause-stands : goal.returns-clause-stands
returns-clause-stands c =
    let e : c.told.result ≡ comparison_of c.args.statements.now c.args.order c.args.agreement = search rules in
    has_statement _ _ _ _ e

pub returns-clause-alone : goal.returns-clause-alone
returns-clause-alone c =
    let e : c.told.result ≡ comparison_of c.args.statements.now c.args.order c.args.agreement = search rules in
    alone c.args.statements.now c.args.order c.args.agreement _ e
