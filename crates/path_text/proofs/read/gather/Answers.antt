use Rattle.std.proofs.Common.{rules}
use Rattle.path_text.proofs.Cut.{few-segments}
use Rattle.path_text.proofs.read.gather.Goals as goal

pub loop-segment-init : goal.loop-segment-init
loop-segment-init c =
    let few = few-segments c.args.text.now 0 in
    search rules
