use Rattle.std.proofs.Common.{rules}
use Rattle.std.proofs.Output.{has_written_append}
use Rattle.std.specs.Prelude.{IsOk}
use Rattle.wording.proofs.Aligned.{eight_columns}
use Rattle.wording.proofs.items.AccountToldDisplay.fmt.Goals as goal

pub returns-clause-writes : goal.returns-clause-writes
returns-clause-writes g c plain ok =
    let first : IsOk c.write.result = search rules in
    let second : IsOk c.write-2.result = search rules in
    let a = c.args.self.now in
    let asked =
    rw (c.laid_out.ensures, c.laid_out-2.ensures, c.laid_out-3.ensures, ← (eight_columns a.account.items), ← (eight_columns a.modules), ← (eight_columns a.account.seen))
    at c.write.ensures.writes in
    let rest =
    rw (c.laid_out-4.ensures, c.laid_out-5.ensures, c.laid_out-6.ensures, ← (eight_columns a.account.hidden), ← (eight_columns a.account.refused), ← (eight_columns a.paths))
    at c.write-2.ensures.writes in
    let deliveries =
    rw (c.laid_out-7.ensures, c.laid_out-8.ensures, c.laid_out-9.ensures, ← (eight_columns a.deliveries.changed), ← (eight_columns a.deliveries.unchanged), ← (eight_columns a.deliveries.refused))
    at c.write-3.ensures.writes in
    let one = asked plain first in
    let two = rest one.plain second in
    let three = deliveries two.plain ok in
    has_written_append _ _ _ _ _ _ (has_written_append _ _ _ _ _ _ one two) three
