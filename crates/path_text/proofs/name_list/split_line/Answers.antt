use Rattle.std.proofs.Common.{arith}
use Rattle.std.proofs.lemmas.List.{take_rest}
use Rattle.path_text.proofs.Lines.{one_line, split}
use Rattle.path_text.proofs.name_list.split_line.Goals as goal

pub returns-then-byte-eq10 : goal.returns-then-byte-eq10
returns-then-byte-eq10 c = rw take_rest (split c.args.text.now _ c.loop-i-test.true c.if-byte-eq10.true c.loop-i.invariant)

pub returns : goal.returns
returns c = one_line c.args.text.now (λ k h. c.loop-i.invariant k (omega arith))
