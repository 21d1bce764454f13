use Rattle.std.proofs.Common.{[], vec_items}
use Rattle.source_text.specs.declared.words.Word.{Word}
use Rattle.firmware.proofs.AllRead.{read_more, read_all, first_bad, on_memory, wants_at, wanted}
use Rattle.firmware.proofs.path_words.read_paths.Goals as goal

-- what a read past the end would give
blank : Word
blank = record { text = record { ref_ptr = (0, 0); now = [] }; line = 0; column = 0 }

pub loop-word-preserved : goal.loop-word-preserved
unfolding blank
loop-word-preserved c =
    let ls = c.args.list.now in
    read_more ls c.args.words.now c.loop-word.word-index blank c.loop-word-test.true (vec_items c.loop-word.paths) (vec_items c.push.new.self) c.in-Ok.path c.loop-word.invariant c.in-Ok.ensures.exact c.in_ok-push-in-Ok.ensures.items

pub returns-in-Err-clause-reads : goal.returns-in-Err-clause-reads
unfolding blank
returns-in-Err-clause-reads c =
    let ls = c.args.list.now in
    first_bad ls c.args.words.now c.loop-word.word-index blank c.loop-word-test.true (vec_items c.loop-word.paths) c.loop-word.invariant c.in-Err.failure c.in-Err.ensures.exact c.failure_of.result c.failure_of.ensures

pub returns-in-Err-clause-memory : goal.returns-in-Err-clause-memory
unfolding blank
returns-in-Err-clause-memory c =
    let ls = c.args.list.now in
    wanted ls c.args.words.now c.loop-word.word-index blank c.loop-word-test.true (vec_items c.loop-word.paths) c.loop-word.invariant c.in-Err.failure c.in-Err.ensures.memory c.failure_of.result c.failure_of.ensures

pub returns-in_err-push-in-Ok-clause-memory : goal.returns-in_err-push-in-Ok-clause-memory
unfolding blank
returns-in_err-push-in-Ok-clause-memory c =
    let ls = c.args.list.now in
    let p = c.in-Ok.path in
    on_memory c.from_residual.result (wants_at ls c.args.words.now c.loop-word.word-index blank c.loop-word-test.true (vec_items c.loop-word.paths) c.loop-word.invariant (p.kind, vec_items p.names, c.in-Ok.ensures.exact))

pub returns-clause-reads : goal.returns-clause-reads
returns-clause-reads c =
    let ls = c.args.list.now in
    read_all ls c.args.words.now c.loop-word.word-index (vec_items c.loop-word.paths) c.loop-word-test.false c.loop-word.invariant
