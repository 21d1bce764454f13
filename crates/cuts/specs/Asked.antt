-- What an index answers to the paths that are asked of it.
use Rattle.item_scope.specs.Views.{View}
use Rattle.path_resolution.specs.Questions.{answered}
use Rattle.cuts.specs.declared.asked.Ask.{Ask}
use Rattle.cuts.specs.declared.asked.Answered.{Answered}

abbrev pub answered_by : View → Ask → Answered
answered_by v a = record { ask = a; result = answered v a.question a.path.now.kind a.path.now.names.items }
