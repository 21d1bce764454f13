-- A model's deliveries as calls, and what came of them by their statements.
use Rattle.std.specs.Prelude.{Bool, List, [], ◌∷◌, ◌++◌, map, Option, Some, None, Result}
use Rattle.hir_def.specs.declared.fault.IndexFault.{IndexFault}
use Rattle.firmware.specs.declared.deliveries.Outcome.{Outcome}
use Rattle.firmware.specs.declared.file.DeliveryStatement.{DeliveryStatement}
use Rattle.orders.specs.Orders.{calls_of}
use Rattle.runs.specs.declared.calls.Call.{Call}
use Rattle.runs.specs.declared.calls.Call.TheVariants.{Deliver, Ask}

-- the deliveries of statements as calls that are to be made
abbrev pub calls_in : List DeliveryStatement → List Call
calls_in ss = calls_of (map (λ s. s.delivery) ss)

-- a delivery as a call that was made
abbrev pub made_call : Outcome → Call
made_call o = Deliver o.statement.delivery (Some o.result)

-- what came of a delivery that was made
abbrev pub result_of : Call → Option (Result Bool IndexFault)
result_of (Deliver d r) = r
result_of (Ask q path r) = None

abbrev pub result_at : Option Call → Option (Result Bool IndexFault)
result_at None = None
result_at (Some c) = result_of c

abbrev pub outcome : DeliveryStatement → Option (Result Bool IndexFault) → List Outcome
outcome s None = []
outcome s (Some r) = record { statement = s; result = r } ∷ []

-- each statement with what came of the call beside it
abbrev pub outcomes_of : List DeliveryStatement → List Call → List Outcome
outcomes_of [] cs = []
outcomes_of (s ∷ ss) [] = []
outcomes_of (s ∷ ss) (c ∷ cs) = outcome s (result_of c) ++ outcomes_of ss cs
