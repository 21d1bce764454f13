use Rattle.world_lines.proofs.Cuts.{three_parts}
use Rattle.world_lines.proofs.words.two.Goals as goal

pub returns-in-Some : goal.returns-in-Some
returns-in-Some c =
    three_parts c.args.text.now c.in_ok-first.first.now c.in_ok-first.second.now c.in-Some.field-0.0.now c.in-Some.field-0.1.now c.in_ok-first.ensures c.in-Some.ensures
