use Rattle.std.proofs.Common.{rules, sym, map}
use Rattle.std.proofs.Output.{has_written_append, has_written_of_eq}
use Rattle.hir_def.specs.declared.ModuleId.{ModuleId}
use Rattle.wording.proofs.Modules.{module_more}
use Rattle.wording.proofs.names.EachModuleDisplay.fmt.Goals as goal

blank : ModuleId
blank = record { 0 = 0 }

pub loop-module-preserved : goal.loop-module-preserved
unfolding blank
loop-module-preserved g c p =
    has_written_of_eq _ _ _ _ _ (sym (module_more (map (λ n. n.now) c.args.self.now.names.now) c.args.self.now.before.now c.args.self.now.modules.now c.loop-module.module-index blank c.loop-module-test.true)) (has_written_append _ _ _ _ _ _ (c.loop-module.invariant p) (search rules))
