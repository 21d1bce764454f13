use Rattle.std.proofs.Common.{◌≡◌, take, map, vec_items}
use Rattle.std.specs.List.{flat_map}
use Rattle.model_runs.specs.Parts.{asking, asked_in}
use Rattle.model_runs.proofs.parts.asks_of.Given as goal

abbrev pub invariant-loop-part : goal.invariant-loop-part
invariant-loop-part l = map asking (vec_items l.asks) ≡ flat_map (asked_in l.survey) (take l.part-index l.parts)
