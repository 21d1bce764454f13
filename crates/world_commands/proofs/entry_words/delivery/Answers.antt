use Rattle.world_commands.proofs.Deliveries.{no_import}
use Rattle.world_commands.proofs.entry_words.delivery.Goals as goal

pub returns-in_err-import : goal.returns-in_err-import
returns-in_err-import c = rw c.from_residual-in_err-import.ensures (no_import c.args.fields.now _ c.in_err-import.ensures)
