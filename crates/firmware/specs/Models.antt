-- Where the parts of a file begin and end.
use Rattle.std.specs.Prelude.{ℕ, ◌+◌, length, vec_items}
use Rattle.std.specs.Option.{option_map_or}
use Rattle.std.specs.List.{slice_get}
use Rattle.std.specs.declared.ops.Range.{Range}
use Rattle.firmware.specs.declared.models.Mark.{Mark}
use Rattle.firmware.specs.declared.pile.Part.{Part}
use Rattle.firmware.specs.declared.pile.Part.TheVariants.{Base, Model}
use Rattle.firmware.specs.declared.file.Firmware.{Firmware}

-- as far as the file has come
abbrev pub reached : Firmware → Mark
reached f = record { deliveries = length (vec_items f.deliveries); paths = length (vec_items f.paths); items = length (vec_items f.definitions.of_a_kind) }

-- where the part of the model with that index begins; after the last one, where the file ends
abbrev pub mark_at : Firmware → ℕ → Mark
mark_at f m = option_map_or (λ x. x.began) (slice_get (vec_items f.models) m) (reached f)

abbrev pub began : Firmware → Part → Mark
began f Base = record { deliveries = 0; paths = 0; items = 0 }
began f (Model m) = mark_at f m

-- a part ends where the next one begins
abbrev pub ended : Firmware → Part → Mark
ended f Base = mark_at f 0
ended f (Model m) = mark_at f (m + 1)

abbrev pub paths_between : Mark → Mark → Range ℕ
paths_between began ended = record { start = began.paths; end = ended.paths }
