-- An index that tells a tree, and names that stand for nothing.
use Rattle.std.specs.Prelude.{ℕ, ◌≤◌, None, refl}
use Rattle.nameres.specs.Shapes.{Shape}
use Rattle.item_scope.specs.declared.place.Place.TheVariants.{Empty}
use Rattle.item_scope.specs.IndexData.{IndexData, SoundData, no_styles}
use Rattle.item_scope.specs.Views.{View, Sound}

abbrev pub bare_data : Shape → ℕ → IndexData
bare_data t names = record {
  tree = t;
  names = names;
  enums = 0;
  macro_count = 0;
  extern_prelude = λ c n. None;
  macro_use = λ m n. None;
  prelude = λ m. None;
  legacy = λ m n. None;
  variant = λ e n. None;
  styles = λ m. no_styles;
}

abbrev pub bare : Shape → ℕ → View
bare t names = record { fixed = bare_data t names; types = λ m n. Empty; values = λ m n. Empty; macros = λ m n. Empty }

bare_data_sound : (t : Shape) (names : ℕ) → names ≤ 65536 → SoundData (bare_data t names)
bare_data_sound t names l = record {
  few_names = l;
  extern_prelude = λ c n e h. absurd (cc);
  macro_use = λ m n u h. absurd (cc);
  prelude = λ m p h. absurd (cc);
  legacy = λ m n d h. absurd (cc);
  variant = λ e n x h. absurd (cc);
  styles = λ m h. refl;
}

pub bare_sound : (t : Shape) (names : ℕ) → names ≤ 65536 → Sound (bare t names)
bare_sound t names l = record {
  fixed = bare_data_sound t names l;
  types = record { known = λ m n h. absurd (cc); holders = λ m n. refl };
  values = record { known = λ m n h. absurd (cc); holders = λ m n. refl };
  macros = record { known = λ m n h. absurd (cc); holders = λ m n. refl };
}
