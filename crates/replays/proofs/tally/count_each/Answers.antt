use Rattle.std.proofs.Common.{arith}
use Rattle.std.proofs.lemmas.Grind.{text_counts}
use Rattle.replays.proofs.tally.count_each.Goals as goal

pub overflow_add-counts : goal.overflow_add-counts
overflow_add-counts c = grind (arith, text_counts)

pub loop-name-preserved : goal.loop-name-preserved
loop-name-preserved c = (grind (arith, text_counts), grind (arith, text_counts))
