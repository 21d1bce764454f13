-- What a model runs, and what is told of it.
use Rattle.std.specs.Prelude.{◌≡◌, ℕ, ◌*◌, min, List, [], ◌∷◌, ◌++◌, length, map}
use Rattle.std.specs.List.{flat_map}
use Rattle.hir_def.specs.declared.ModuleDefId.{ModuleDefId}
use Rattle.item_scope.specs.InTurn.{InTurn}
use Rattle.item_scope.specs.Views.{View}
use Rattle.cuts.specs.declared.asked.Ask.{Ask}
use Rattle.cuts.specs.declared.asked.Answered.{Answered}
use Rattle.cuts.specs.Asked.{answered_by}
use Rattle.firmware.specs.declared.file.DeliveryStatement.{DeliveryStatement}
use Rattle.firmware.specs.declared.file.Firmware.{Firmware}
use Rattle.firmware.specs.declared.models.Model.{Model as CardModel}
use Rattle.firmware.specs.declared.pile.Part.TheVariants.{Base, Model}
use Rattle.firmware.specs.declared.pile.Pile.{Pile}
use Rattle.firmware.specs.declared.pile.Pile.TheVariants.{One, Two, Three}
use Rattle.firmware.specs.declared.survey.Survey.{Survey}
use Rattle.firmware.specs.Definitions.{definition_of}
use Rattle.firmware.specs.Parts.{deliveries_in, items_in}
use Rattle.firmware.specs.Piles.{parts_of, top_of}
use Rattle.model_runs.specs.Made.{IsMadeBy}
use Rattle.model_runs.specs.Parts.{Asking, asking, asked_in}
use Rattle.variants.specs.declared.own_places.OwnPlace.{OwnPlace}
use Rattle.variants.specs.Own.{overlaid}
use Rattle.wording.specs.declared.holders.Told.{Told}

-- what the model's own statements deliver
abbrev pub own_deliveries : Firmware → CardModel → List DeliveryStatement
own_deliveries f m = deliveries_in f (Model (top_of m.pile))

-- the items of its pile
abbrev pub pile_items : Firmware → CardModel → List ModuleDefId
pile_items f m = flat_map (items_in f) (parts_of m.pile)

-- the paths that are asked of its pile
abbrev pub pile_asks : Survey → CardModel → List Asking
pile_asks s m = flat_map (asked_in s) (parts_of m.pile)

-- each path that is asked, with what an index answers that tells v
abbrev pub AreAnswered : View → List Asking → List Answered → Type 0
AreAnswered v asked answers = (asks : List Ask) × ((map asking asks ≡ asked) × (answers ≡ map (answered_by v) asks))

-- the deliveries of the model with that index made the second view of the first: they came to places of its own over it
abbrev pub IsMadeOver : Firmware → View → ℕ → View → Type 0
IsMadeOver f below m made = (own : List OwnPlace) × (IsMadeBy (deliveries_in f (Model m)) below own × (made ≡ overlaid below own))

-- the models of a pile that stand below its top, the lowest first
abbrev pub below_top : Pile → List ℕ
below_top (One top) = []
below_top (Two a top) = a ∷ []
below_top (Three a b top) = a ∷ b ∷ []

-- a view that models made in turn, the first of them over some index and each other over what the one before it made
abbrev pub IsPiled : Firmware → List ℕ → View → Type 0
IsPiled f models v = (base : View) × InTurn (IsMadeOver f) base models v

-- an index that tells v is the one that a model of that pile stands on
abbrev pub StandsOn : Firmware → Pile → View → Type 0
StandsOn f pile v = IsPiled f (below_top pile) v

-- an index that tells v has the deliveries of all models of that pile, and so those of its top last
abbrev pub HasPile : Firmware → Pile → View → Type 0
HasPile f pile v = IsPiled f (below_top pile ++ top_of pile ∷ []) v

-- an item by its statement
abbrev pub item_told : Firmware → ModuleDefId → Told
item_told f d = record { def = d; definition = definition_of f.definitions d }

-- three rows for each delivery of the base, and no more than are lent
abbrev pub rows_for : Firmware → ℕ → ℕ
rows_for f lent = min lent (3 * length (deliveries_in f Base))
