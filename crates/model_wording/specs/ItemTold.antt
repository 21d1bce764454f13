-- What is written of an item that is kept or cut.
use Rattle.std.specs.Prelude.{ℕ, List, ◌++◌, Option, codes, option_map}
use Rattle.wording.specs.declared.holders.Told.{Told}
use Rattle.wording.specs.Places.{kind_word, line_text, told_text}
use Rattle.model_wording.specs.declared.reason_told.ReasonTold.{ReasonTold}
use Rattle.model_wording.specs.ReasonTold.{reason_told, reason_words}

-- the line of an item's statement
abbrev pub line_of : Told → Option ℕ
line_of t = option_map (λ d. d.line) t.definition

abbrev pub item_text : Told → List ℕ
item_text t = kind_word t.def ++ codes " " ++ told_text t

abbrev pub kept_told : Told → ReasonTold → List ℕ
kept_told t r = codes "kept " ++ item_text t ++ codes "\n" ++ reason_told r

abbrev pub kept_line : Told → ReasonTold → List ℕ
kept_line t r = codes "kept " ++ item_text t ++ codes " " ++ line_text (line_of t) ++ codes " " ++ reason_words r

abbrev pub cut_told : Told → List ℕ
cut_told t = codes "cut " ++ item_text t ++ codes " in line " ++ line_text (line_of t) ++ codes "\n"

abbrev pub cut_line : Told → List ℕ
cut_line t = codes "cut " ++ item_text t ++ codes " " ++ line_text (line_of t)
