-- What is told of the reason of an item.
use Rattle.std.specs.Prelude.{List, ℕ, Option, vec_items}
use Rattle.std.specs.List.{slice_get}
use Rattle.std.specs.Option.{option_map, option_and_then}
use Rattle.std.specs.Borrow.{Bor}
use Rattle.hir_def.specs.declared.Namespace.{Namespace}
use Rattle.entries.specs.declared.per_ns.PerNs.{PerNs}
use Rattle.cuts.specs.declared.reached.Reason.{Reason}
use Rattle.firmware.specs.declared.definition.Definition.{Definition}
use Rattle.firmware.specs.declared.file.Firmware.{Firmware}
use Rattle.firmware.specs.Definitions.{place_of}
use Rattle.wording.specs.Holders.{entry_in, entry_at}
use Rattle.model_wording.specs.declared.reason_told.ReasonTold.{ReasonTold}

-- the place to which its statement delivered the entry
abbrev place_in : Firmware → PerNs → Namespace → Option Definition
place_in f e s = option_and_then (λ it. place_of f.definitions it.def it.import) (entry_in e s)

-- the path with the line of its statement, and the entry that stands for the item: what brought it, and the place that it came to
abbrev pub reason_by : Firmware → Bor (List ℕ) → Reason → ReasonTold
reason_by f path r = record {
  path = path;
  line = option_map (λ w. w.line) (slice_get (vec_items f.paths) r.path);
  namespace = r.namespace;
  holder = entry_at f.definitions r.entries r.namespace;
  place = place_in f r.entries r.namespace;
}
