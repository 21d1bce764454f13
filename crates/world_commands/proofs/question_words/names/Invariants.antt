use Rattle.std.proofs.Common.{take}
use Rattle.std.specs.List.{AllZip}
use Rattle.world_commands.specs.Words.{IsNumber}
use Rattle.world_commands.proofs.question_words.names.Given as goal

abbrev pub invariant-loop-name : goal.invariant-loop-name
invariant-loop-name l = AllZip (λ n part. IsNumber n.0 part.now) l.names.items (take l.name-index l.name-items)
