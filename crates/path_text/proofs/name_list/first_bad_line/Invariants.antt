use Rattle.std.proofs.Common.{◌≡◌, ◌+◌, ◌≤◌, length}
use Rattle.path_text.specs.Lists.{lines_of, unfinished, bad_from, bad_line}
use Rattle.path_text.proofs.name_list.first_bad_line.Given as goal

abbrev pub invariant-loop-line : goal.invariant-loop-line
invariant-loop-line l =
    (l.number + length l.rest ≤ length l.bytes)
    × (bad_line l.bytes l.names ≡ bad_from (lines_of l.rest) (unfinished l.rest) l.names l.number)

abbrev pub decreases-loop-line : goal.decreases-loop-line
decreases-loop-line l = length l.rest
