use Rattle.std.proofs.Common.{◌∙◌, ap, sym, List}
use Rattle.std.proofs.lemmas.List.{take_all}
use Rattle.std.specs.Option.{option_or}
use Rattle.cuts.specs.declared.asked.Answered.{Answered}
use Rattle.cuts.specs.Reached.{said, reason, reason_in}
use Rattle.cuts.proofs.Reasons.{next, cut_law}
use Rattle.cuts.proofs.reached.Reached.of.Goals as goal

pub loop-answered-preserved : goal.loop-answered-preserved
loop-answered-preserved c = λ item.
    c.in_ok-add.ensures item
    ∙ ap (λ o. option_or o (reason_in c.args.definitions.now c.answered-item.result item)) (c.loop-answered.invariant item)
    ∙ sym (next c.args.definitions.now item c.args.answers.now c.loop-answered.answered-index c.answered-item.result c.loop-answered-test.true c.answered-item.is)

pub returns-clause-first : goal.returns-clause-first
returns-clause-first c = λ item.
    c.loop-answered.invariant item
    ∙ ap (λ (xs : List Answered). reason c.args.definitions.now xs item) (take_all c.loop-answered.answered-index c.args.answers.now c.loop-answered-test.false)

pub returns-clause-exactly : goal.returns-clause-exactly
returns-clause-exactly c = λ item.
    cut_law c.args.definitions.now item c.args.answers.now (said c.loop-answered.reached item)
    (c.loop-answered.invariant item
    ∙ ap (λ (xs : List Answered). reason c.args.definitions.now xs item) (take_all c.loop-answered.answered-index c.args.answers.now c.loop-answered-test.false))
