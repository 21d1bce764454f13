use Rattle.std.proofs.Common.{vec_items}
use Rattle.model_reports.proofs.Taken.{one_taken, each_taken, not_taken}
use Rattle.model_reports.proofs.files.survey_all.Goals as goal

pub loop-one-preserved : goal.loop-one-preserved
loop-one-preserved c =
    one_taken c.args.read.now c.loop-one.one-index c.one-item.result c.loop-one-test.true c.one-item.is (vec_items c.loop-one.surveys) (vec_items c.push.new.self) c.in-Ok.survey c.loop-one.invariant c.in-Ok.ensures.taken c.in_ok-push-in-Ok.ensures.items

pub returns-in-Err-clause-refused : goal.returns-in-Err-clause-refused
returns-in-Err-clause-refused c =
    not_taken c.args.read.now c.requires c.loop-one.one-index c.one-item.result c.loop-one-test.true c.one-item.is (vec_items c.loop-one.surveys) c.loop-one.invariant c.in-Err.failure c.in-Err.ensures.refused c.error_of.result c.error_of.ensures

pub returns-clause-taken : goal.returns-clause-taken
returns-clause-taken c =
    each_taken c.args.read.now c.loop-one.one-index (vec_items c.loop-one.surveys) c.loop-one-test.false c.loop-one.invariant
