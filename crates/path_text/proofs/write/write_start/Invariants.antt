use Rattle.std.proofs.Common.{◌≡◌, ◌-◌, ◌++◌, vec_items}
use Rattle.path_text.specs.Grammar.{supers, joined_to}
use Rattle.path_text.proofs.write.write_start.Given as goal

abbrev pub invariant-loop : goal.invariant-loop
invariant-loop l = vec_items l.initial.out ++ joined_to (supers l.supers) ≡ vec_items l.out ++ joined_to (supers (l.supers - l.counter))
