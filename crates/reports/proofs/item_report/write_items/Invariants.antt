use Rattle.std.proofs.Common.{◌≡◌, take}
use Rattle.reports.specs.Items.{items_account, shape_in}
use Rattle.reports.specs.Sights.{AreSeen}
use Rattle.reports.specs.Styles.{most_named}
use Rattle.reports.proofs.item_report.write_items.Given as goal

abbrev pub invariant-loop-done : goal.invariant-loop-done
invariant-loop-done g l = record {
  most : l.sights.most ≡ most_named l.style;
  seen : AreSeen (shape_in l.survey) l.sights;
  account : l.account ≡ items_account (shape_in l.survey) (take l.done-counter l.item-items);
}
