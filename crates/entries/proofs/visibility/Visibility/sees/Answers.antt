use Rattle.std.proofs.Common.{rules, ◌≡◌, true, sym, refl}
use Rattle.entries.specs.Visibilities.{visible}
use Rattle.entries.proofs.Visible.{visible_decides}
use Rattle.entries.proofs.visibility.Visibility.sees.Goals as goal

pub returns-in-Module-clause-means : goal.returns-in-Module-clause-means
returns-in-Module-clause-means g c =
    let value : c.is_inside.result ≡ visible (g.T.Tree.shape c.args.tree.now) c.args.from c.args.self = search rules in
    rw value (visible_decides _ _ (g.met.T.Tree.ruled c.args.tree.now) c.args.from c.args.self)

pub returns-in-PubCrate-clause-means : goal.returns-in-PubCrate-clause-means
returns-in-PubCrate-clause-means g c =
    let value : c.eq.result ≡ visible (g.T.Tree.shape c.args.tree.now) c.args.from c.args.self = search rules in
    rw value (visible_decides _ _ (g.met.T.Tree.ruled c.args.tree.now) c.args.from c.args.self)

pub returns-in-Public-clause-means : goal.returns-in-Public-clause-means
returns-in-Public-clause-means g c =
    let value : true ≡ visible (g.T.Tree.shape c.args.tree.now) c.args.from c.args.self = search rules in
    ((λ seen. (visible_decides _ _ (g.met.T.Tree.ruled c.args.tree.now) c.args.from c.args.self).0 (sym value)), (λ sees. refl))
