-- What the deliveries of a model make of the index below, in two orders.
use Rattle.std.specs.Prelude.{◌≡◌, ◌<◌, ◌-◌, ℕ, Bool, List, [], length, map, Some, None, Result, IfSome}
use Rattle.hir_def.specs.declared.Name.{Name}
use Rattle.hir_def.specs.declared.fault.IndexFault.{IndexFault}
use Rattle.item_scope.specs.declared.delivery.Delivery.{Delivery}
use Rattle.item_scope.specs.Deliveries as index
use Rattle.item_scope.specs.InTurn.{InTurn}
use Rattle.item_scope.specs.Views.{View}
use Rattle.firmware.specs.declared.deliveries.Outcome.{Outcome}
use Rattle.firmware.specs.declared.file.DeliveryStatement.{DeliveryStatement}
use Rattle.orders.specs.declared.agreement.Agreement.{Agreement}
use Rattle.orders.specs.declared.agreement.Agreement.TheVariants.{Agree, Parted}
use Rattle.orders.specs.declared.order.Order.{Order}
use Rattle.orders.specs.Agreements.{Agrees, agreement_of}
use Rattle.orders.specs.Orders.{reordered}
use Rattle.path_resolution.specs.declared.question.Question.{Question}
use Rattle.path_resolution.specs.Questions.{answered}
use Rattle.path_text.specs.declared.mod_path.PathKind.{PathKind}
use Rattle.runs.specs.Runs.{unmade}
use Rattle.runs.specs.declared.calls.Call.{Call}
use Rattle.runs.specs.declared.calls.Call.TheVariants.{Deliver, Ask}
use Rattle.variants.specs.declared.own_places.OwnPlace.{OwnPlace}
use Rattle.variants.specs.declared.own_places.TheConstants.{MOST_OWN_PLACES}
use Rattle.variants.specs.Own.{overlaid, rows_after}
use Rattle.model_runs.specs.Calls.{made_call}

-- how many places of its own are free, of an index that has these
abbrev pub free : List OwnPlace → ℕ
free own = MOST_OWN_PLACES - length own

-- a delivery to an index that has places of its own over one that tells `below`: it is taken or refused as any index does that tells
-- so much and has so many places free, and the places are these then
pub record DeliveredOver (below : View) (own : List OwnPlace) (d : Delivery) (r : Result Bool IndexFault) (then : List OwnPlace) : Type 0 where
  pub takes : index.Takes (overlaid below own) (free own) d r (overlaid below then) (free then)
  pub places : then ≡ rows_after below own d

-- a call that was made; a question changes nothing
abbrev pub DidOver : View → List OwnPlace → Call → List OwnPlace → Type 0
DidOver below own (Deliver d (Some r)) then = DeliveredOver below own d r then
DidOver below own (Deliver d None) then = ⊥
DidOver below own (Ask q path r) then = then ≡ own

-- the calls were made in their order to an index over one that tells `below`, whose own places were all free; then they are these
abbrev pub MadeOver : View → List Call → List OwnPlace → Type 0
MadeOver below = InTurn (DidOver below) []

-- so the deliveries of statements were, and this came of them
pub record RanOver (below : View) (ss : List DeliveryStatement) (os : List Outcome) (own : List OwnPlace) : Type 0 where
  pub statements : map (λ o. o.statement) os ≡ ss
  pub made : MadeOver below (map made_call os) own

abbrev pub IsMadeBy : List DeliveryStatement → View → List OwnPlace → Type 0
IsMadeBy ss below own = (os : List Outcome) × RanOver below ss os own

-- the same is told, and so every question has one answer
pub record TellTheSame (v w : View) : Type 0 where
  pub told : v ≡ w
  pub answers : (q : Question) (k : PathKind) (ns : List Name) → answered v q k ns ≡ answered w q k ns

-- The deliveries of these outcomes, after which the own places are `own`, were made in the order too, over the same index: after them
-- they are `other`. What came of them agrees so; and where it does, both tell the same.
pub record Compares (below : View) (os : List Outcome) (own : List OwnPlace) (order : Order) (a : Agreement) (other : List OwnPlace) : Type 0 where
  pub calls : List Call
  pub given : map unmade calls ≡ map unmade (reordered order (map made_call os))
  pub made : MadeOver below calls other
  pub agreement : a ≡ agreement_of (reordered order (map made_call os)) calls
  pub agree : Agrees a → TellTheSame (overlaid below own) (overlaid below other)

-- a position that it names is below the number
abbrev pub NamesBelow : ℕ → Agreement → Type 0
NamesBelow n (Agree d) = IfSome d (λ i. i < n)
NamesBelow n (Parted i) = i < n
