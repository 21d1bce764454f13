-- What is told of an item is what is known of its visibility.
use Rattle.std.proofs.Common.{◌≡◌, ℕ, Some, subst, ◌∙◌, rules}
use Rattle.reports.specs.Items.{shape_in}
use Rattle.reports.specs.Sights.{AreSeen, SeesBy, known}
use Rattle.reports.specs.Styles.{most_named}
use Rattle.reports.proofs.item_report.write_looked_up.Goals as goal

pub write_item-requires-clause-seen : goal.write_item-requires-clause-seen
unfolding AreSeen
write_item-requires-clause-seen g c =
    let x = c.unwrap-seen.result.now in
    let known_so : known c.look.new.self c.args.item.vis ≡ Some x = search rules in
    let most : c.look.new.self.most ≡ most_named c.args.style = c.look.ensures.most ∙ c.requires.most in
    let P : ℕ → Type 0 = λ n. SeesBy (shape_in c.args.survey.now) n c.args.item.vis x in
    subst P most (c.look.ensures.seen c.requires.seen c.args.item.vis x known_so)
