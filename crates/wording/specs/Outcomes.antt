-- What an index answered to the deliveries of a file, counted.
use Rattle.std.specs.Prelude.{ℕ, ◌++◌, codes, decimal, Bool, true, false, List, length, filter, Ok, Err, Result}
use Rattle.hir_def.specs.declared.fault.IndexFault.{IndexFault}
use Rattle.firmware.specs.declared.deliveries.Outcome.{Outcome}
use Rattle.wording.specs.declared.counts.DeliveryCounts.{DeliveryCounts}

abbrev pub made : Result Bool IndexFault → Bool
made (Ok true) = true
made (Ok false) = false
made (Err f) = false

abbrev pub idle : Result Bool IndexFault → Bool
idle (Ok true) = false
idle (Ok false) = true
idle (Err f) = false

abbrev pub denied : Result Bool IndexFault → Bool
denied (Ok b) = false
denied (Err f) = true

-- a delivery that changed a place, that changed none, that was refused
abbrev pub is_made : Outcome → Bool
is_made o = made o.result

abbrev pub is_idle : Outcome → Bool
is_idle o = idle o.result

abbrev pub is_refused : Outcome → Bool
is_refused o = denied o.result

abbrev pub counts_of : List Outcome → DeliveryCounts
counts_of os = record { changed = length (filter is_made os); unchanged = length (filter is_idle os); refused = length (filter is_refused os) }

abbrev pub counts_text : DeliveryCounts → List ℕ
counts_text c = decimal c.changed ++ codes " " ++ decimal c.unchanged ++ codes " " ++ decimal c.refused
