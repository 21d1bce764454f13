use Rattle.std.proofs.Common.{lit<}
use Rattle.std.proofs.lemmas.Str.Pattern.{split_parts}
use Rattle.world_lines.proofs.Cuts.{cut_of}
use Rattle.world_lines.proofs.words.cut.Goals as goal

pub returns : goal.returns
returns c = cut_of c.args.text.now _ (split_parts 32 c.args.text.now _ c.split_once.ensures.cases (lit< tt))
