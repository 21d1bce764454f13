-- Which models are told, which part of the file the last one begins, and over which model one stands.
use Rattle.std.specs.Prelude.{ℕ, ◌-◌, List, [], ◌∷◌, length, Option, Some, None}
use Rattle.std.specs.Borrow.{Bor}
use Rattle.std.specs.BTreeMap.{BTreeMap, get_by}
use Rattle.std.specs.Cmp.Lexicographic.{slice_cmp}
use Rattle.std.specs.List.{slice_get}
use Rattle.std.specs.Option.{option_map_or, option_and_then}
use Rattle.std.specs.Ordering.{nat_cmp}
use Rattle.firmware.specs.Piles.{top_of, with_top, parts_of}
use Rattle.firmware.specs.declared.models.Model.{Model}
use Rattle.firmware.specs.declared.pile.Part.{Part}
use Rattle.firmware.specs.declared.pile.Part.TheVariants as part
use Rattle.firmware.specs.declared.pile.Pile.{Pile}
use Rattle.firmware.specs.declared.pile.Pile.TheVariants.{One}
use Rattle.source_text.specs.declared.words.Word.{Word}

abbrev pub last_model : List Model → Option Model
last_model models = slice_get models (length models - 1)

-- the part of the file in which the next statement stands: that of the last model, and the base before the first one
abbrev pub part_of : List Model → Part
part_of models = option_map_or (λ m. part.Model (top_of m.pile)) (last_model models) part.Base

-- the parts whose names that statement may use: the base, and then the models of the last one's pile from the lowest
abbrev pub parts_seen : List Model → List Part
parts_seen models = option_map_or (λ m. parts_of m.pile) (last_model models) (part.Base ∷ [])

-- the index of the model of that name
abbrev pub model_by_name : BTreeMap (Bor (List ℕ)) ℕ → List ℕ → Option ℕ
model_by_name numbers w = get_by (λ k. slice_cmp nat_cmp w k.now) numbers

-- a model with that index on top of the pile of the model of that name; none over three
abbrev pub pile_over : BTreeMap (Bor (List ℕ)) ℕ → List Model → List ℕ → ℕ → Option Pile
pile_over numbers models w n = option_and_then (λ m. with_top m.pile n) (option_and_then (slice_get models) (model_by_name numbers w))

-- the pile of a model with that index: the model alone, or over the one that is named
abbrev pub pile_of : BTreeMap (Bor (List ℕ)) ℕ → List Model → Option Word → ℕ → Option Pile
pile_of numbers models None n = Some (One n)
pile_of numbers models (Some below) n = pile_over numbers models below.text.now n
