use Rattle.std.proofs.Common.{take, vec_items}
use Rattle.firmware.specs.Paths.{AllRead}
use Rattle.firmware.proofs.path_words.read_paths.Given as goal

abbrev pub invariant-loop-word : goal.invariant-loop-word
invariant-loop-word l = AllRead l.list (take l.word-index l.words) (vec_items l.paths)
