-- What the agreement of two orders says of the statements.
use Rattle.std.specs.Prelude.{◌≡◌, ◌<◌, ⊤, ℕ, Bool, not, ◌==◌, ◌||◌, if◌then◌else◌, List, ◌++◌, length, filter, map, Option, Some, None, IsSome}
use Rattle.std.specs.List.{slice_get}
use Rattle.std.specs.Option.{option_map, option_and_then}
use Rattle.item_scope.specs.Globs.{wide_glob, by_glob}
use Rattle.firmware.specs.declared.file.DeliveryStatement.{DeliveryStatement}
use Rattle.orders.specs.declared.agreement.Agreement.{Agreement}
use Rattle.orders.specs.declared.agreement.Agreement.TheVariants as agreement
use Rattle.orders.specs.declared.order.Order.{Order}
use Rattle.orders.specs.declared.order.Order.TheVariants.{NamesFirst, GlobsFirst}
use Rattle.orders.specs.Orders.{calls_of}
use Rattle.runs.specs.declared.calls.Call.{Call}
use Rattle.runs.specs.declared.calls.Call.TheVariants.{Deliver}
use Rattle.model_wording.specs.declared.comparison.Comparison.{Comparison}
use Rattle.model_wording.specs.declared.comparison.Comparison.TheVariants.{Alone, Agree, Parted}

abbrev pub is_by_glob : DeliveryStatement → Bool
is_by_glob s = by_glob wide_glob s.delivery.import

abbrev pub is_by_name : DeliveryStatement → Bool
is_by_name s = not (is_by_glob s)

-- statements by glob and by name, in the order
abbrev pub joined : Order → List DeliveryStatement → List DeliveryStatement → List DeliveryStatement
joined NamesFirst globs names = names ++ globs
joined GlobsFirst globs names = globs ++ names

-- of statements that stand in the other order; where all are of one kind an agreement says nothing
abbrev pub compared : List DeliveryStatement → Bool → Order → Agreement → Comparison
compared ss alone o (agreement.Agree d) = if alone then Alone else Agree o (option_and_then (slice_get ss) d)
compared ss alone o (agreement.Parted i) = Parted o (slice_get ss i)

abbrev pub comparison_of : List DeliveryStatement → Order → Agreement → Comparison
comparison_of ss o a =
    let globs = filter is_by_glob ss in
    let names = filter is_by_name ss in
    compared (joined o globs names) ((length globs == 0) || (length names == 0)) o a

abbrev pub IsParted : Agreement → Type 0
IsParted (agreement.Agree d) = ⊥
IsParted (agreement.Parted i) = ⊤

abbrev pub TellsParted : Comparison → Type 0
TellsParted Alone = ⊥
TellsParted (Agree o d) = ⊥
TellsParted (Parted o s) = ⊤

-- the order that is told, where one is
abbrev pub TellsOrder : Order → Comparison → Type 0
TellsOrder order Alone = ⊤
TellsOrder order (Agree o s) = o ≡ order
TellsOrder order (Parted o s) = o ≡ order

abbrev pub HasStatement : Comparison → Type 0
HasStatement Alone = ⊤
HasStatement (Agree o d) = ⊤
HasStatement (Parted o s) = IsSome s

-- it parted, if it did, at one of so many
abbrev pub PartedBelow : ℕ → Agreement → Type 0
PartedBelow n (agreement.Agree d) = ⊤
PartedBelow n (agreement.Parted i) = i < n

-- the position that an agreement names
abbrev pub position_of : Agreement → Option ℕ
position_of (agreement.Agree d) = d
position_of (agreement.Parted i) = Some i

-- the deliveries of statements as calls that are to be made
abbrev pub calls_in : List DeliveryStatement → List Call
calls_in ss = calls_of (map (λ s. s.delivery) ss)

abbrev pub call_of : DeliveryStatement → Call
call_of s = Deliver s.delivery None

-- the call of the statement that is told stands at that position
abbrev pub TellsCallAt : List Call → Option ℕ → Comparison → Type 0
TellsCallAt cs i Alone = ⊤
TellsCallAt cs i (Agree o s) = option_map call_of s ≡ option_and_then (slice_get cs) i
TellsCallAt cs i (Parted o s) = option_map call_of s ≡ option_and_then (slice_get cs) i
