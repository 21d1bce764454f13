use Rattle.std.proofs.Common.{rules, sym}
use Rattle.std.proofs.Output.{has_written_append, has_written_of_eq}
use Rattle.hir_def.specs.declared.Name.{Name}
use Rattle.paths.proofs.Numbers.{named_more}
use Rattle.paths.proofs.told.EachNamedDisplay.fmt.Goals as goal

blank : Name
blank = record { 0 = 0 }

pub loop-name-preserved : goal.loop-name-preserved
unfolding blank
loop-name-preserved g c p =
    has_written_of_eq _ _ _ _ _ (sym (named_more c.args.self.now.list.now c.args.self.now.names.now c.loop-name.name-index blank c.loop-name-test.true)) (has_written_append _ _ _ _ _ _ (c.loop-name.invariant p) (search rules))
