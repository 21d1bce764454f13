use Rattle.std.proofs.Common.{◌≡◌, take, map, vec_items}
use Rattle.serde_json.specs.View.{view}
use Rattle.report_json.specs.Json.{name_data}
use Rattle.report_json.proofs.json.names_of.Given as goal

abbrev pub invariant-loop-name : goal.invariant-loop-name
invariant-loop-name l = map view (vec_items l.values) ≡ map (name_data l.list) (take l.name-index l.names)
