use Rattle.entries.proofs.Kept.{keeps_seen}
use Rattle.entries.proofs.per_ns.PerNs.filter_visibility.Goals as goal

pub returns-clause-seen : goal.returns-clause-seen
returns-clause-seen g c =
    let r = g.met.T.Tree.ruled c.args.tree.now in
    let from = c.args.from in
    rw (c.filter_item.ensures, c.filter_item-2.ensures, c.filter_item-3.ensures)
    (record { types = keeps_seen _ _ r from c.args.self.now.types; values = keeps_seen _ _ r from c.args.self.now.values; macros = keeps_seen _ _ r from c.args.self.now.macros })
