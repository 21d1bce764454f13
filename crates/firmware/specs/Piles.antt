-- Which models a pile has.
use Rattle.std.specs.Prelude.{ℕ, List, [], ◌∷◌, Some, None, Option}
use Rattle.firmware.specs.declared.pile.Part.{Part}
use Rattle.firmware.specs.declared.pile.Part.TheVariants as part
use Rattle.firmware.specs.declared.pile.Pile.{Pile}
use Rattle.firmware.specs.declared.pile.Pile.TheVariants.{One, Two, Three}

-- the highest model
abbrev pub top_of : Pile → ℕ
top_of (One a) = a
top_of (Two a b) = b
top_of (Three a b c) = c

-- with one more model above, where there is room for it
abbrev pub with_top : Pile → ℕ → Option Pile
with_top (One a) m = Some (Two a m)
with_top (Two a b) m = Some (Three a b m)
with_top (Three a b c) m = None

-- the base, and then the models from the lowest
abbrev pub parts_of : Pile → List Part
parts_of (One a) = part.Base ∷ part.Model a ∷ []
parts_of (Two a b) = part.Base ∷ part.Model a ∷ part.Model b ∷ []
parts_of (Three a b c) = part.Base ∷ part.Model a ∷ part.Model b ∷ part.Model c ∷ []
