use Rattle.std.proofs.Common.{sym, ◌∙◌}
use Rattle.entries.proofs.Visible.{visible_decides, stays_in_crate}
use Rattle.entries.proofs.visibility.Visibility.is_visible_from.Goals as goal

pub returns-clause-means : goal.returns-clause-means
returns-clause-means g c = rw c.sees.ensures.value (visible_decides _ _ (g.met.T.Tree.ruled c.args.tree.now) c.args.from c.args.self)

pub returns-clause-apart : goal.returns-clause-apart
returns-clause-apart g c =
    let rules = g.met.T.Tree.ruled c.args.tree.now in
    λ seen. stays_in_crate _ _ rules _ _ ((visible_decides _ _ rules c.args.from c.args.self).0 (sym c.sees.ensures.value ∙ seen))
