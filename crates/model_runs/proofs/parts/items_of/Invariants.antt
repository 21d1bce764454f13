use Rattle.std.proofs.Common.{◌≡◌, take, vec_items}
use Rattle.std.specs.List.{flat_map}
use Rattle.firmware.specs.Parts.{items_in}
use Rattle.model_runs.proofs.parts.items_of.Given as goal

abbrev pub invariant-loop-part : goal.invariant-loop-part
invariant-loop-part l = vec_items l.items ≡ flat_map (items_in l.firmware) (take l.part-index l.parts)
