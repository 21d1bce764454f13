use Rattle.std.proofs.Common.{◌≡◌, length, vec_items}
use Rattle.path_text.specs.Written.{names_text, after}
use Rattle.path_text.proofs.write.write_names.Given as goal

abbrev pub invariant-loop-name : goal.invariant-loop-name
invariant-loop-name l = after (vec_items l.initial.out) (names_text l.list l.led l.names) ≡ after (vec_items l.out) (names_text l.list l.joins l.rest)

abbrev pub decreases-loop-name : goal.decreases-loop-name
decreases-loop-name l = length l.rest
