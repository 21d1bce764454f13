use Rattle.world_commands.proofs.Names.{no_number, read_more, all_read}
use Rattle.world_commands.proofs.question_words.names.Goals as goal

pub returns-in-None : goal.returns-in-None
returns-in-None c =
    no_number c.args.word.now c.as_slice-name-items.result.now c.loop-name.name-index _ (rw (← c.eq.ensures) c.if-eq.false) (rw c.as_slice-name-items.ensures.value c.in_ok-words.ensures) c.loop-name-test.true c.in-None.ensures

pub loop-name-preserved : goal.loop-name-preserved
loop-name-preserved c =
    read_more _ _ c.as_slice-name-items.result.now c.loop-name.name-index c.in-Some.number _ c.loop-name.invariant c.loop-name-test.true c.in-Some.ensures c.in_ok-push-in-Some.ensures.items

pub returns : goal.returns
returns c =
    all_read c.args.word.now _ c.as_slice-name-items.result.now c.loop-name.name-index (rw c.as_slice-name-items.ensures.value c.in_ok-words.ensures) c.loop-name-test.false c.loop-name.invariant
