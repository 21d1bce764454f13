use Rattle.world_commands.proofs.Defs.{no_number}
use Rattle.world_commands.proofs.entry_words.module_def.Goals as goal

pub returns-in_err-id : goal.returns-in_err-id
returns-in_err-id c =
    rw c.from_residual-in_err-id.ensures (no_number c.args.word.now c.in_ok-kind.kind.now c.in_ok-kind.id.now c.in_ok-kind.ensures.0 c.in_ok-kind.ensures.1 c.in_err-id.ensures)
