use Rattle.std.proofs.Common.{◌≡◌, false, is_err, ◌+◌, length, refl, arith, rules}
use Rattle.keyed.specs.Entries.{most_rows}
use Rattle.index_tables.proofs.Sound.{good_rows}
use Rattle.index_tables.proofs.Taking.{refused, taken, on_ok, all_taken}
use Rattle.index_tables.proofs.load_table.load_table.Goals as goal

pub loop-i-preserved : goal.loop-i-preserved
loop-i-preserved g c =
    let a = c.args in
    let t = c.loop-i.table in
    let ok : is_err c.adopt.result ≡ false = search rules in
    taken g.K.PartialEq.eq (g.K.NumbersExist.exist a.counts.now) most_rows a.rows.now a.from c.loop-i.i t.entries t.free c.index-rows-i.result c.loop-i.invariant c.loop-i-test.true c.index-rows-i.is
    c.adopt.result ok c.adopt.ensures.present c.adopt.ensures.full (search rules) c.adopt.new.self.entries c.adopt.new.self.free (on_ok c.adopt.result ok c.adopt.ensures.entries) (on_ok c.adopt.result ok c.adopt.ensures.free)

pub returns-then-is_err-clause-tested : goal.returns-then-is_err-clause-tested
returns-then-is_err-clause-tested g c =
    let a = c.args in
    let t = c.loop-i.table in
    let bad = refused g.K.PartialEq.eq (g.K.NumbersExist.exist a.counts.now) most_rows a.rows.now a.from c.loop-i.i t.entries t.free c.index-rows-i.result c.loop-i.invariant c.loop-i-test.true c.index-rows-i.is
    c.adopt.result (search rules) c.adopt.ensures.present c.adopt.ensures.full in
    rw c.from-then-is_err.ensures (a.from + c.loop-i.i, refl, bad)

pub returns-clause-good : goal.returns-clause-good
returns-clause-good g c =
    let a = c.args in
    let e : c.loop-i.i ≡ length a.rows.now = omega arith in
    good_rows g.K.PartialEq.eq (g.K.NumbersExist.exist a.counts.now) a.rows.now c.loop-i.table.entries a.from
    (all_taken g.K.PartialEq.eq (g.K.NumbersExist.exist a.counts.now) most_rows a.rows.now a.from c.loop-i.i c.loop-i.table.entries c.loop-i.table.free c.loop-i.invariant e)
