use Rattle.std.proofs.Common.{rules, ◌≡◌, ◌*◌, length, ap, arith}
use Rattle.std.proofs.lemmas.List.{length-take}
use Rattle.keyed.specs.Entries.{most_rows}
use Rattle.keyed.specs.Hashes.{key_hash, key_hash-respects}
use Rattle.keyed.proofs.Fresh.{fresh}
use Rattle.keyed.proofs.table.Table.new.Goals as goal

pub invariant_of-result : goal.invariant_of-result
unfolding most_rows
invariant_of-result g c =
    let key = g.R.Key in
    let rows = g.R.Rows.rows c.truncated-rows.result in
    let hash = key_hash g.S.BuildHasher g.S.Hasher.Hasher c.args.hash_builder key.Hash.hash_input in
    let respects = key_hash-respects g.S.BuildHasher g.S.Hasher.Hasher c.args.hash_builder key.Hash.hash_input key.PartialEq.eq g.met.R.Key.Hash.respects_eq in
    let count : length c.as_slice-count.result.now ≡ length rows = ap length c.as_slice-count.ensures in
    fresh hash key.PartialEq.eq g.met.R.Key.Eq.laws respects rows c.in_ok-links.links.items c.in_ok-heads.heads.items (length c.as_slice-count.result.now * 4)
    (rw c.truncated-rows.ensures (omega (arith, length-take 0xFFFF_FFFF (g.R.Rows.rows c.args.rows))))
    (search rules)
    (λ l. omega arith)
    (c.in_ok-heads.ensures.items_if_clones_equal (λ y e. e))
