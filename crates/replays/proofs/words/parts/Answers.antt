use Rattle.std.proofs.lemmas.Iterator.Consumers.{map_from_collect}
use Rattle.std.proofs.lemmas.Iterator.Splits.{YieldsList-from_str_split}
use Rattle.replays.proofs.words.parts.Goals as goal

pub returns : goal.returns
returns c = map_from_collect _ c.collect.ensures.ran (YieldsList-from_str_split c.args.by c.args.line.now c.requires c.split.ensures.text c.split.ensures.has_more c.split.ensures.pattern)
