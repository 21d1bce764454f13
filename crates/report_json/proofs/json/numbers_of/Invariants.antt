use Rattle.std.proofs.Common.{◌≡◌, take, map, vec_items}
use Rattle.serde_json.specs.View.{view}
use Rattle.report_json.specs.Json.{number_data}
use Rattle.report_json.proofs.json.numbers_of.Given as goal

abbrev pub invariant-loop-name : goal.invariant-loop-name
invariant-loop-name l = map view (vec_items l.values) ≡ map number_data (take l.name-index l.names)
