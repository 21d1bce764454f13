use Rattle.std.proofs.Common.{rules, ap, ◌∙◌}
use Rattle.keyed.specs.Entries.{Contents, put}
use Rattle.keyed.proofs.Finds.{put_written, overwrites_put}
use Rattle.keyed.proofs.table.Table.insert.Goals as goal

pub returns-in-Some-clause-entries : goal.returns-in-Some-clause-entries
returns-in-Some-clause-entries g c =
    let s = c.self.inside in
    let eq = g.R.Key.PartialEq.eq in
    put_written eq (g.R.Rows.rows s.rows) (g.R.Rows.rows c.write.new.self) s.used c.in-Some.index c.args.key c.args.value c.index-as_slice-index.result c.self.invariant.within (search rules) (search rules) (search rules)
    ∙ ap (λ (held : Contents g.row.R-Key.Denot g.row.R-Value.Denot). put eq held.entries c.args.key c.args.value) c.self.view_is

pub returns-in-Some-clause-found : goal.returns-in-Some-clause-found
returns-in-Some-clause-found g c =
    overwrites_put g.R.Key.PartialEq.eq c.args.self.now.entries _ c.args.key c.args.value g.met.R.Key.Eq.laws (returns-in-Some-clause-entries g c)
