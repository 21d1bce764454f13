-- Words with another verb say no command.
use Rattle.std.proofs.Common.{◌≢◌, List, ◌∷◌, ℕ, codes, None}
use Rattle.world_commands.specs.declared.command.Command.TheVariants as command
use Rattle.world_commands.specs.Words.{ReadAs}
use Rattle.world_commands.specs.Commands.{IsCommand}

pub no_verb : (verb : List ℕ) (fields : List (List ℕ)) → verb ≢ codes "deliver" → verb ≢ codes "ask" → verb ≢ codes "asktext" → verb ≢ codes "place" → verb ≢ codes "sight" → verb ≢ codes "read" → verb ≢ codes "left" → ReadAs IsCommand (verb ∷ fields) None
no_verb verb fields a b c d e f g (command.Deliver x) s = a s.0
no_verb verb fields a b c d e f g (command.Ask q p) s = b s.0
no_verb verb fields a b c d e f g (command.AskText q t) s = c s.0
no_verb verb fields a b c d e f g (command.Place m n) s = d s.0
no_verb verb fields a b c d e f g (command.Sight v m) s = e s.0
no_verb verb fields a b c d e f g (command.Read t) s = f s.0
no_verb verb fields a b c d e f g command.Left s = g s.0
