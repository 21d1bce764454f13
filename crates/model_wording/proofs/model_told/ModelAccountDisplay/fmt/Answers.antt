use Rattle.std.proofs.Common.{rules}
use Rattle.std.proofs.Output.{has_written_append}
use Rattle.std.specs.Prelude.{IsOk}
use Rattle.wording.proofs.Aligned.{eight_columns}
use Rattle.model_wording.proofs.model_told.ModelAccountDisplay.fmt.Goals as goal

pub returns-clause-writes : goal.returns-clause-writes
returns-clause-writes g c plain ok =
    let first : IsOk c.write.result = search rules in
    let second : IsOk c.write-2.result = search rules in
    let third : IsOk c.write-3.result = search rules in
    let a = c.args.self.now in
    let paths = rw (c.laid_out.ensures, c.laid_out-2.ensures, ← (eight_columns a.asked), ← (eight_columns a.refused)) at c.write.ensures.writes in
    let items = rw (c.laid_out-3.ensures, c.laid_out-4.ensures, ← (eight_columns a.items.kept), ← (eight_columns a.items.cut)) at c.write-2.ensures.writes in
    let deliveries =
    rw (c.laid_out-5.ensures, c.laid_out-6.ensures, c.laid_out-7.ensures, ← (eight_columns a.deliveries.changed), ← (eight_columns a.deliveries.unchanged), ← (eight_columns a.deliveries.refused))
    at c.write-3.ensures.writes in
    let places = rw (c.laid_out-8.ensures, ← (eight_columns a.places)) at c.write-4.ensures.writes in
    let one = paths plain first in
    let two = items one.plain second in
    let three = deliveries two.plain third in
    let four = places three.plain ok in
    has_written_append _ _ _ _ _ _ (has_written_append _ _ _ _ _ _ (has_written_append _ _ _ _ _ _ one two) three) four
