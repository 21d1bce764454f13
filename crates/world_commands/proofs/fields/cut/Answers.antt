use Rattle.std.proofs.lemmas.Str.Pattern.{split_parts}
use Rattle.world_commands.proofs.Cuts.{cut_of}
use Rattle.world_commands.proofs.fields.cut.Goals as goal

pub returns : goal.returns
returns c = cut_of c.args.by c.args.text.now _ (split_parts c.args.by c.args.text.now _ c.split_once.ensures.cases c.requires)
