use Rattle.std.proofs.Common.{vec_items, rules}
use Rattle.path_text.proofs.Writing.{one-super, start-written}
use Rattle.path_text.proofs.write.write_start.Goals as goal

pub loop-preserved : goal.loop-preserved
loop-preserved c = one-super c.start_of-supers.result.1 c.loop.counter _ (vec_items c.loop.out) (vec_items c.extend_from_slice-in-loop.new.self) c.loop-test.true (search rules) c.loop.invariant

pub returns : goal.returns
returns c = start-written c.start_of-supers.result.1 c.loop.counter (vec_items c.args.out.now) c.start_of-supers.result.0.now _ _ (vec_items c.loop.out) c.loop-test.false (search rules) c.start_of-supers.ensures c.loop.invariant
