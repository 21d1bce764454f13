use Rattle.cuts.specs.Reached.{said}
use Rattle.cuts.proofs.Counted.{all_counted}
use Rattle.cuts.proofs.verdict.Tally.of.Goals as goal

pub returns-clause-all : goal.returns-clause-all
returns-clause-all c = let all = all_counted (said c.args.reached.now) c.args.items.now in cc
