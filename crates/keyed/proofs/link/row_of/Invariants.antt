use Rattle.keyed.specs.Hashes.{key_hash}
use Rattle.keyed.proofs.Walks.{IsWalkTo}
use Rattle.keyed.proofs.link.row_of.Given as goal

abbrev pub invariant-loop-at : goal.invariant-loop-at
invariant-loop-at g l = IsWalkTo (key_hash g.S.BuildHasher g.S.Hasher.Hasher l.hash_builder g.K.Hash.hash_input) g.K.PartialEq.eq l.rows l.links l.heads l.used l.key l.at

abbrev pub decreases-loop-at : goal.decreases-loop-at
decreases-loop-at g l = l.at
