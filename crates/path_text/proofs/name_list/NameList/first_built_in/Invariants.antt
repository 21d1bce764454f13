use Rattle.std.proofs.Common.{◌≡◌}
use Rattle.path_text.specs.Lists.{builtin_lines}
use Rattle.path_text.proofs.name_list.NameList.first_built_in.Given as goal

abbrev pub invariant-loop-number : goal.invariant-loop-number
invariant-loop-number l = l.list ≡ builtin_lines l.number
