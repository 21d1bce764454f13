use Rattle.std.proofs.Common.{◌<◌, ◌++◌, ◌∷◌, [], length, drop, ap, ◌∙◌, arith}
use Rattle.std.proofs.lemmas.List.{length-drop}
use Rattle.keyed.specs.Entries.{Contents, row}
use Rattle.keyed.proofs.Finds.{overwrites_append}
use Rattle.keyed.proofs.Growth.{next_written}
use Rattle.keyed.proofs.table.Table.append.Goals as goal

pub returns-clause-found : goal.returns-clause-found
returns-clause-found g c =
    let s = c.self.inside in
    let Held = Contents g.row.R-Key.Denot g.row.R-Value.Denot in
    let new = row c.args.key c.args.value in
    let rows = g.R.Rows.rows s.rows in
    let l : s.used < length rows = omega (arith, length-drop s.used rows, ap (λ (held : Held). length held.free) c.self.view_is, c.room.ensures) in
    overwrites_append g.R.Key.PartialEq.eq c.args.self.now.entries c.link_next.new.self.entries c.args.key c.args.value g.met.R.Key.Eq.laws c.requires
    (c.link_next.ensures.entries ∙ (next_written rows _ s.used new l c.write.ensures).0 ∙ ap (λ (held : Held). held.entries ++ new ∷ []) c.self.view_is)

pub returns-clause-free : goal.returns-clause-free
returns-clause-free g c =
    let s = c.self.inside in
    let Held = Contents g.row.R-Key.Denot g.row.R-Value.Denot in
    let rows = g.R.Rows.rows s.rows in
    let l : s.used < length rows = omega (arith, length-drop s.used rows, ap (λ (held : Held). length held.free) c.self.view_is, c.room.ensures) in
    c.link_next.ensures.free ∙ (next_written rows _ s.used (row c.args.key c.args.value) l c.write.ensures).1 ∙ ap (λ (held : Held). drop 1 held.free) c.self.view_is
