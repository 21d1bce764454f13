use Rattle.runs.proofs.Small.{lawful, chains, hides, reorders}
use Rattle.runs.proofs.small_tree.chain_count.Goals as goal

pub returns-clause-lawful : goal.returns-clause-lawful
returns-clause-lawful c = lawful

pub returns-clause-chains : goal.returns-clause-chains
returns-clause-chains c = chains

pub returns-clause-hides : goal.returns-clause-hides
returns-clause-hides c = hides

pub returns-clause-reorders : goal.returns-clause-reorders
returns-clause-reorders c = reorders
