-- What is told of a model, and the numbers of its account.
use Rattle.std.specs.Prelude.{ℕ, ◌-◌, Bool, List, length, filter, Option, Some, None, is_err}
use Rattle.std.specs.List.{slice_get}
use Rattle.std.specs.Option.{option_map, option_and_then}
use Rattle.std.specs.Borrow.{Bor}
use Rattle.hir_def.specs.declared.ModuleDefId.{ModuleDefId}
use Rattle.cuts.specs.declared.asked.Answered.{Answered}
use Rattle.cuts.specs.declared.reached.Reason.{Reason}
use Rattle.cuts.specs.Verdicts.{is_kept, is_cut}
use Rattle.firmware.specs.declared.deliveries.Outcome.{Outcome}
use Rattle.firmware.specs.declared.models.Model.{Model}
use Rattle.firmware.specs.declared.pile.Pile.{Pile}
use Rattle.firmware.specs.declared.pile.Pile.TheVariants.{One, Two, Three}
use Rattle.firmware.specs.Piles.{parts_of}
use Rattle.variants.specs.declared.own_places.TheConstants.{MOST_OWN_PLACES}
use Rattle.wording.specs.Outcomes.{counts_of}
use Rattle.model_wording.specs.declared.model_told.ModelAccount.{ModelAccount}
use Rattle.model_wording.specs.declared.model_told.ModelTold.{ModelTold}

-- the model right below the highest one; none where that stands on the base
abbrev pub below_of : Pile → Option ℕ
below_of (One a) = None
below_of (Two a b) = Some a
below_of (Three a b c) = Some b

-- all parts of a pile but the base are models
abbrev pub depth_of : Pile → ℕ
depth_of p = length (parts_of p) - 1

abbrev pub told_of : List Model → Model → ModelTold
told_of ms m = record { name = m.name; over = option_map (λ b. b.name) (option_and_then (slice_get ms) (below_of m.pile)); depth = depth_of m.pile }

-- a path that is not asked
abbrev pub is_refused : Answered → Bool
is_refused a = is_err a.result

-- what the paths were answered, which items have a reason, what came of the deliveries, and how many places they took
abbrev pub account_of : Bor (List ℕ) → List Answered → (ModuleDefId → Option Reason) → List ModuleDefId → List Outcome → ℕ → ModelAccount
account_of model answers reason items outcomes left = record {
  model = model;
  asked = length answers;
  refused = length (filter is_refused answers);
  items = record { kept = length (filter (λ i. is_kept (reason i)) items); cut = length (filter (λ i. is_cut (reason i)) items) };
  deliveries = counts_of outcomes;
  places = MOST_OWN_PLACES - left;
}
