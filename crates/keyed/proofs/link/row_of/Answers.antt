use Rattle.std.proofs.Common.{◌≤◌, rules}
use Rattle.keyed.specs.Hashes.{key_hash}
use Rattle.keyed.proofs.Walks.{walk_tells}
use Rattle.keyed.proofs.link.row_of.Goals as goal

pub offset_bounds-rows-index : goal.offset_bounds-rows-index
offset_bounds-rows-index g c =
    let a = c.args in
    let within : c.loop-at.at ≤ a.used = (walk_tells (key_hash g.S.BuildHasher g.S.Hasher.Hasher a.hash_builder.now g.K.Hash.hash_input) g.K.PartialEq.eq a.rows.now a.links.now a.heads.now a.used a.key c.loop-at.at c.requires.chained c.requires.within c.loop-at.invariant).1 in
    search rules
