-- Nothing that is known is nothing but who sees.
use Rattle.std.proofs.Common.{rules}
use Rattle.reports.proofs.item_report.write_items.Goals as goal
use Rattle.reports.specs.Sights.{AreSeen}

pub loop-done-init : goal.loop-done-init
unfolding AreSeen
loop-done-init g c = record { most = search rules; seen = λ vis x h. search rules; account = search rules }
