use Rattle.std.proofs.Common.{◌≡◌, length, sym, ap, ◌∙◌, arith}
use Rattle.std.proofs.Math.Seq.{take-append_seam}
use Rattle.keyed.specs.Hashes.{key_hash, key_hash-respects}
use Rattle.keyed.proofs.Fresh.{fresh}
use Rattle.keyed.proofs.table.Table.clear.Goals as goal

pub invariant_of-self : goal.invariant_of-self
invariant_of-self g c =
    let s = c.self.inside in
    let key = g.R.Key in
    let heads = c.fill.new.self in
    let hash = key_hash g.S.BuildHasher g.S.Hasher.Hasher s.hash_builder key.Hash.hash_input in
    let respects = key_hash-respects g.S.BuildHasher g.S.Hasher.Hasher s.hash_builder key.Hash.hash_input key.PartialEq.eq g.met.R.Key.Hash.respects_eq in
    let full : s.heads.len ≡ length heads = sym (c.fill.ensures.len ∙ c.as_mut_slice.ensures.len) in
    fresh hash key.PartialEq.eq g.met.R.Key.Eq.laws respects (g.R.Rows.rows s.rows) s.links.items _ (length c.as_mut_slice.result.now) c.self.invariant.few c.self.invariant.room_for_links
    (λ l. omega (arith, c.self.invariant.some_bucket l, ap length c.as_mut_slice.ensures.value))
    (rw (full, take-append_seam) (c.fill.ensures.after (λ y e. e)))
