use Rattle.std.proofs.Common.{◌≡◌, take, map, vec_items}
use Rattle.serde_json.specs.View.{view}
use Rattle.report_json.specs.Json.{module_data}
use Rattle.report_json.proofs.json.module_names.Given as goal

abbrev pub invariant-loop-module : goal.invariant-loop-module
invariant-loop-module l = map view (vec_items l.values) ≡ map (module_data (map (λ n. n.now) l.names)) (take l.module-index l.modules)
