-- What is written of a model.
use Rattle.std.specs.Prelude.{ℕ, List, [], ◌∷◌, ◌++◌, Option, Some, None, codes, decimal}
use Rattle.std.specs.Borrow.{Bor}
use Rattle.std.specs.List.{concat}
use Rattle.cuts.specs.declared.verdict.Tally.{Tally}
use Rattle.firmware.specs.declared.file.DeliveryStatement.{DeliveryStatement}
use Rattle.orders.specs.declared.order.Order.{Order}
use Rattle.orders.specs.declared.order.Order.TheVariants.{NamesFirst, GlobsFirst}
use Rattle.variants.specs.declared.own_places.TheConstants.{MOST_OWN_PLACES}
use Rattle.wording.specs.declared.counts.DeliveryCounts.{DeliveryCounts}
use Rattle.wording.specs.Aligned.{aligned}
use Rattle.wording.specs.Outcomes.{counts_text}
use Rattle.wording.specs.Places.{delivery_told}
use Rattle.wording.specs.Told.{deliveries_told}
use Rattle.model_wording.specs.declared.comparison.Comparison.{Comparison}
use Rattle.model_wording.specs.declared.comparison.Comparison.TheVariants.{Alone, Agree, Parted}
use Rattle.model_wording.specs.declared.model_told.ModelAccount.{ModelAccount}

-- what a model stands over
abbrev pub over_told : Option (Bor (List ℕ)) → List ℕ
over_told None = codes "the firmware tree"
over_told (Some model) = codes "model " ++ model.now

abbrev pub over_word : Option (Bor (List ℕ)) → List ℕ
over_word None = codes "-"
over_word (Some model) = model.now

abbrev pub model_told : List ℕ → Option (Bor (List ℕ)) → List ℕ
model_told name over = codes "\nmodel " ++ name ++ codes "\n    over " ++ over_told over ++ codes "\n"

abbrev pub model_line : List ℕ → Option (Bor (List ℕ)) → ℕ → List ℕ
model_line name over depth = codes "model " ++ name ++ codes " " ++ over_word over ++ codes " " ++ decimal depth

abbrev pub order_told : Order → List ℕ
order_told NamesFirst = codes "names first"
order_told GlobsFirst = codes "globs first"

abbrev pub order_word : Order → List ℕ
order_word NamesFirst = codes "names-first"
order_word GlobsFirst = codes "globs-first"

abbrev pub place_at : DeliveryStatement → List ℕ
place_at s = s.name.now ++ codes " in " ++ s.«module».now

-- what differed on the way, if anything did
abbrev pub differed_told : Option DeliveryStatement → List ℕ
differed_told None = []
differed_told (Some s) = codes "; on the way " ++ place_at s ++ codes " differed, line " ++ decimal s.line

-- the first delivery that parted
abbrev pub parted_told : Option DeliveryStatement → List ℕ
parted_told None = codes "a delivery"
parted_told (Some s) = codes "the " ++ delivery_told s

abbrev pub comparison_told : Comparison → List ℕ
comparison_told Alone = codes "    no other order to compare\n"
comparison_told (Agree o d) = codes "    deliveries in the file's order and " ++ order_told o ++ codes ": every question has one answer" ++ differed_told d ++ codes "\n"
comparison_told (Parted o s) =
    codes "    deliveries in the file's order and " ++ order_told o ++ codes ": " ++ parted_told s
    ++ codes " is taken in one order and refused in the other, so no agreement is claimed\n"

abbrev pub statement_words : Option DeliveryStatement → List ℕ
statement_words None = codes "- - -"
statement_words (Some s) = s.name.now ++ codes " " ++ s.«module».now ++ codes " " ++ decimal s.line

abbrev pub comparison_words : Comparison → List ℕ
comparison_words Alone = codes "- agree - - -"
comparison_words (Agree o d) = order_word o ++ codes " agree " ++ statement_words d
comparison_words (Parted o s) = order_word o ++ codes " parted " ++ statement_words s

abbrev pub orders_line : List ℕ → Comparison → List ℕ
orders_line model c = codes "orders " ++ model ++ codes " " ++ comparison_words c

abbrev pub account_words : ℕ → ℕ → Tally → List ℕ
account_words asked denied t = decimal asked ++ codes " " ++ decimal denied ++ codes " " ++ decimal t.kept ++ codes " " ++ decimal t.cut

abbrev pub places_words : DeliveryCounts → ℕ → List ℕ
places_words d places = counts_text d ++ codes " " ++ decimal places

abbrev pub account_line : List ℕ → ℕ → ℕ → Tally → DeliveryCounts → ℕ → List ℕ
account_line model asked denied t d places = codes "model-account " ++ model ++ codes " " ++ account_words asked denied t ++ codes " " ++ places_words d places

abbrev pub paths_told : ModelAccount → List ℕ
paths_told a = concat (
    codes "\naccount of model " ∷ a.model.now ∷ codes "\n    paths asked         " ∷ aligned a.asked
    ∷ codes "\n    paths refused       " ∷ aligned a.refused ∷ codes "\n" ∷ [])

abbrev pub items_told : Tally → List ℕ
items_told t = concat (
    codes "    items kept          " ∷ aligned t.kept
    ∷ codes "\n    items cut           " ∷ aligned t.cut ∷ codes "\n" ∷ [])

abbrev pub places_told : ℕ → List ℕ
places_told n = concat (codes "    own places          " ∷ aligned n ∷ codes " of " ∷ decimal MOST_OWN_PLACES ∷ codes "\n" ∷ [])

-- the account for people
abbrev pub account_told : ModelAccount → List ℕ
account_told a = paths_told a ++ items_told a.items ++ deliveries_told a.deliveries ++ places_told a.places
