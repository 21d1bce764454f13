use Rattle.std.proofs.Common.{rules}
use Rattle.path_text.proofs.Spelling.{spells}
use Rattle.path_text.proofs.write.write_path.Goals as goal

pub returns-then-branch-clause-spells : goal.returns-then-branch-clause-spells
returns-then-branch-clause-spells c = spells _ _ _ _ (search rules)
