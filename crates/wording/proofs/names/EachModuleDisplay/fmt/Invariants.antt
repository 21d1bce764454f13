use Rattle.std.proofs.Common.{take, map}
use Rattle.std.specs.Fmt.{HasWritten, IsPlainFormatter}
use Rattle.wording.specs.Shown.{each_module}
use Rattle.wording.proofs.names.EachModuleDisplay.fmt.Given as goal

abbrev pub invariant-loop-module : goal.invariant-loop-module
invariant-loop-module g l =
    IsPlainFormatter l.initial.f → HasWritten g.W.Write.write_str_gives l.initial.f (each_module (map (λ n. n.now) l.names) l.before (take l.module-index l.module-items)) l.f
