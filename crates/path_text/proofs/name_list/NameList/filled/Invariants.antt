use Rattle.std.proofs.Common.{◌≡◌, ◌++◌, length}
use Rattle.path_text.specs.Lists.{lines_of}
use Rattle.path_text.proofs.name_list.NameList.filled.Given as goal

abbrev pub invariant-loop-line : goal.invariant-loop-line
invariant-loop-line l = l.list ++ lines_of l.rest ≡ lines_of l.bytes

abbrev pub decreases-loop-line : goal.decreases-loop-line
decreases-loop-line l = length l.rest
