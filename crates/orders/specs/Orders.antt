-- The order of calls in which deliveries by name, or those by glob, come first.
use Rattle.std.specs.Prelude.{◌≡◌, Bool, true, false, not, if◌then◌else◌, List, [], ◌∷◌, ◌++◌, filter, map, None, ◌⊎◌}
use Rattle.std.specs.List.{list_all}
use Rattle.item_scope.specs.declared.delivery.Delivery.{Delivery}
use Rattle.item_scope.specs.Globs.{wide_glob, by_glob}
use Rattle.runs.specs.declared.calls.Call.{Call}
use Rattle.runs.specs.declared.calls.Call.TheVariants.{Deliver, Ask}
use Rattle.orders.specs.declared.order.Order.{Order}
use Rattle.orders.specs.declared.order.Order.TheVariants.{NamesFirst, GlobsFirst}

-- the deliveries as calls that are to be made
abbrev pub calls_of : List Delivery → List Call
calls_of = map (λ d. Deliver d None)

-- whether a call is a delivery by glob
abbrev pub is_by_glob : Call → Bool
is_by_glob (Deliver d r) = by_glob wide_glob d.import
is_by_glob (Ask q path r) = false

-- the calls that are by glob, or those that are not
abbrev pub by_globs : List Call → List Call
by_globs = filter is_by_glob

abbrev pub by_names : List Call → List Call
by_names = filter (λ c. not (is_by_glob c))

abbrev pub of_kind : Bool → List Call → List Call
of_kind glob cs = if glob then by_globs cs else by_names cs

abbrev pub reordered : Order → List Call → List Call
reordered NamesFirst cs = by_names cs ++ by_globs cs
reordered GlobsFirst cs = by_globs cs ++ by_names cs

-- whether only calls by glob follow one by glob
abbrev pub names_first : List Call → Bool
names_first [] = true
names_first (c ∷ cs) = if is_by_glob c then list_all is_by_glob cs else names_first cs

abbrev pub other_order : List Call → Order
other_order cs = if names_first cs then GlobsFirst else NamesFirst

-- none of them is by glob, or all are
abbrev pub IsOneKind : List Call → Type 0
IsOneKind cs = (by_globs cs ≡ []) ⊎ (by_names cs ≡ [])
