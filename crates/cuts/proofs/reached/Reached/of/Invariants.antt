use Rattle.std.proofs.Common.{◌≡◌, take}
use Rattle.hir_def.specs.declared.ModuleDefId.{ModuleDefId}
use Rattle.cuts.specs.Reached.{said, reason}
use Rattle.cuts.proofs.reached.Reached.of.Given as goal

abbrev pub invariant-loop-answered : goal.invariant-loop-answered
invariant-loop-answered l = (item : ModuleDefId) → said l.reached item ≡ reason l.definitions (take l.answered-index l.answers) item
