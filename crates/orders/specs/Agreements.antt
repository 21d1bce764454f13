-- What came of the same calls in two runs.
use Rattle.std.specs.Prelude.{◌≡◌, ℕ, ⊤, Bool, true, false, not, List, Some, None, Ok, Err, Option, Result}
use Rattle.std.specs.List.{zip, position_from}
use Rattle.std.specs.Option.{option_map_or}
use Rattle.hir_def.specs.declared.fault.PathFault.{PathFault}
use Rattle.item_scope.specs.Views.{View}
use Rattle.path_resolution.specs.declared.answer.ResolvePathResult.{ResolvePathResult as Answer}
use Rattle.runs.specs.declared.calls.Call.{Call}
use Rattle.runs.specs.declared.calls.Call.TheVariants.{Deliver, Ask}
use Rattle.runs.specs.Order.{Alike}
use Rattle.runs.specs.Runs.{told_after}
use Rattle.orders.specs.declared.agreement.Agreement.{Agreement}
use Rattle.orders.specs.declared.agreement.Agreement.TheVariants.{Agree, Parted}

-- a delivery that was taken
abbrev pub is_taken : Call → Bool
is_taken (Deliver d (Some (Ok changed))) = true
is_taken (Deliver d (Some (Err f))) = false
is_taken (Deliver d None) = false
is_taken (Ask q path r) = false

-- a delivery that changed a place
abbrev pub has_changed : Call → Bool
has_changed (Deliver d (Some (Ok changed))) = changed
has_changed (Deliver d (Some (Err f))) = false
has_changed (Deliver d None) = false
has_changed (Ask q path r) = false

abbrev pub differ : Bool → Bool → Bool
differ true b = not b
differ false b = b

-- the first position at which one of two runs of the same calls took one, or changed a place by one, and the other did not
abbrev pub parted_at : List Call → List Call → Option ℕ
parted_at xs ys = position_from (λ p. differ (is_taken p.0) (is_taken p.1)) 0 (zip xs ys)

abbrev pub differed_at : List Call → List Call → Option ℕ
differed_at xs ys = position_from (λ p. differ (has_changed p.0) (has_changed p.1)) 0 (zip xs ys)

abbrev pub agreement_of : List Call → List Call → Agreement
agreement_of xs ys = option_map_or Parted (parted_at xs ys) (Agree (differed_at xs ys))

abbrev pub Agrees : Agreement → Type 0
Agrees (Agree differed) = ⊤
Agrees (Parted i) = ⊥

-- indexes that told v and w and then made the calls cs and ds, agreeing so, are alike where they began alike and took the same
abbrev pub AgreementLaw : View → View → Agreement → List Call → List Call → Result Answer PathFault → Result Answer PathFault → Type 0
AgreementLaw v w a cs ds r s = v ≡ w → Agrees a → Alike (told_after v cs) (told_after w ds) r s
