use Rattle.std.proofs.Common.{rules, length, ap, ◌∙◌, arith, length}
use Rattle.keyed.specs.Entries.{Contents, next_is_present}
use Rattle.keyed.specs.Hashes.{key_hash}
use Rattle.keyed.proofs.Growth.{sound_next}
use Rattle.keyed.proofs.table.Table.link_next.Goals as goal

pub invariant_of-self : goal.invariant_of-self
invariant_of-self g c =
    let s = c.self.inside in
    let eq = g.R.Key.PartialEq.eq in
    let Held = Contents g.row.R-Key.Denot g.row.R-Value.Denot in
    let hash = key_hash g.S.BuildHasher g.S.Hasher.Hasher s.hash_builder g.R.Key.Hash.hash_input in
    sound_next hash eq (g.R.Rows.rows s.rows) s.links.items s.heads.items s.used c.bucket_of-bucket.result c.index.result.now c.index-as_slice-used.result c.self.invariant
    (omega (arith, ap (λ (held : Held). length held.free) c.self.view_is, c.requires.some))
    (ap (λ (held : Held). next_is_present eq held.entries held.free) c.self.view_is ∙ c.requires.new)
    (search rules) (search rules)
