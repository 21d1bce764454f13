-- The text that a path is written as.
use Rattle.std.specs.Prelude.{◌≡◌, ℕ, zero, suc, Bool, true, false, cond, List, [], ◌∷◌, ◌++◌, Some, None, codes, Option}
use Rattle.std.specs.List.{slice_get}
use Rattle.hir_def.specs.declared.Name.{Name}
use Rattle.path_text.specs.declared.mod_path.PathKind.{PathKind}
use Rattle.path_text.specs.declared.mod_path.PathKind.TheVariants.{Plain, Super, Crate, Abs, DollarCrate}
use Rattle.path_text.specs.Grammar.{supers, joined_to, Reads}

-- what stands before a word
abbrev pub gap : Bool → List ℕ
gap true = codes "::"
gap false = []

-- the words that begin a path of that kind, joined
abbrev pub start_text : PathKind → List ℕ
start_text Plain = []
start_text (Super zero) = codes "self"
start_text (Super (suc n)) = codes "super" ++ joined_to (supers n)
start_text Crate = codes "crate"
start_text Abs = []
start_text (DollarCrate c) = codes "$crate"

-- `::` stands before the first name
abbrev pub leads : PathKind → Bool
leads Plain = false
leads _ = true

abbrev pub one_word : Bool → Option (List ℕ) → Option (List ℕ) → Option (List ℕ)
one_word led None r = None
one_word led (Some w) None = None
one_word led (Some w) (Some t) = Some (gap led ++ w ++ t)

-- the lines of the names, joined; none where a number has no line
abbrev pub names_text : List (List ℕ) → Bool → List Name → Option (List ℕ)
names_text ls led [] = Some []
names_text ls led (n ∷ ns) = one_word led (slice_get ls n.0) (names_text ls true ns)

abbrev pub after : List ℕ → Option (List ℕ) → Option (List ℕ)
after t None = None
after t (Some u) = Some (t ++ u)

abbrev pub written_of : List (List ℕ) → PathKind → List Name → Option (List ℕ)
written_of ls kind names = after (start_text kind) (names_text ls (leads kind) names)

-- the text written so far, where all names have a line
abbrev pub all_of : Bool → List ℕ → Option (List ℕ)
all_of b t = cond b (Some t) None

-- the names of those numbers are these lines
abbrev pub Lined : List (List ℕ) → List Name → List (List ℕ) → Type 0
Lined ls [] [] = Unit {0}
Lined ls (n ∷ ns) (w ∷ ws) = (slice_get ls n.0 ≡ Some w) × Lined ls ns ws
Lined ls _ _ = ⊥

-- what was written reads as that kind with those names, if any text does
abbrev pub Spells : List (List ℕ) → PathKind → List Name → List ℕ → Type 0
Spells ls kind names text = (ws : List (List ℕ)) → Lined ls names ws → (t : List ℕ) → Reads t kind ws → Reads text kind ws
