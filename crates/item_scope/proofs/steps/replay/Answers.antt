use Rattle.std.proofs.Common.{◌≡◌, rules, sym, subst}
use Rattle.std.proofs.lemmas.Iterator.{YieldsList-from_slice}
use Rattle.std.proofs.lemmas.Iterator.Consumers.{fold_from_yields_List}
use Rattle.item_scope.specs.Holding.{KeepsNames}
use Rattle.item_scope.specs.Places.{tests, stepped, replayed}
use Rattle.item_scope.specs.Shadowing.{Shadows}
use Rattle.item_scope.proofs.Held.{keeps-names}
use Rattle.item_scope.proofs.Shadowed.{shadows}
use Rattle.item_scope.proofs.steps.replay.Goals as goal

pub returns-clause-shadows : goal.returns-clause-shadows
returns-clause-shadows g c =
    let t = tests g.Def.PartialEq.eq g.Import.ImportKind.globs g.Import.PartialEq.eq in
    let p = c.args.place in
    let ns = c.args.came.now in
    let is : c.fold.result ≡ replayed t p ns =
    fold_from_yields_List _ (λ q n. (stepped t q n).place) p c.fold.result c.fold.ensures.ran (YieldsList-from_slice ns cc) (λ a x b q k. search rules) in
    subst (Shadows t.glob p ns) (sym is) (shadows t p ns)

pub returns-clause-keeps : goal.returns-clause-keeps
returns-clause-keeps g c =
    let t = tests g.Def.PartialEq.eq g.Import.ImportKind.globs g.Import.PartialEq.eq in
    let p = c.args.place in
    let ns = c.args.came.now in
    let is : c.fold.result ≡ replayed t p ns =
    fold_from_yields_List _ (λ q n. (stepped t q n).place) p c.fold.result c.fold.ensures.ran (YieldsList-from_slice ns cc) (λ a x b q k. search rules) in
    subst (KeepsNames t.glob p ns) (sym is) (keeps-names g.Def.PartialEq.eq g.Import.ImportKind.globs g.Import.PartialEq.eq g.met.Def.LawfulEq.eq_is_identity g.met.Import.LawfulEq.eq_is_identity p ns)
