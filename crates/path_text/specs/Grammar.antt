-- The language of path text, without the reader: a start, names, or both, all joined by `::`.
use Rattle.std.specs.Prelude.{◌≡◌, ℕ, zero, suc, true, List, [], ◌∷◌, ◌++◌, codes}
use Rattle.path_text.specs.declared.mod_path.PathKind.{PathKind}
use Rattle.path_text.specs.declared.mod_path.PathKind.TheVariants.{Plain, Super, Crate, Abs, DollarCrate}
use Rattle.path_text.specs.Bytes.{letter, inner}

abbrev pub Inners : List ℕ → Type 0
Inners [] = Unit {0}
Inners (b ∷ u) = (inner b ≡ true) × Inners u

-- a letter or an underscore, then those or digits
abbrev pub Word : List ℕ → Type 0
Word [] = ⊥
Word (b ∷ u) = (letter b ≡ true) × Inners u

-- a name is a word other than `_`, `crate`, `self` and `super`
pub record IsName (w : List ℕ) : Type 0 where
  pub word : Word w
  pub not-bare : w ≡ codes "_" → ⊥
  pub not-crate : w ≡ codes "crate" → ⊥
  pub not-self : w ≡ codes "self" → ⊥
  pub not-super : w ≡ codes "super" → ⊥

abbrev pub Names : List (List ℕ) → Type 0
Names [] = Unit {0}
Names (w ∷ ws) = IsName w × Names ws

abbrev pub supers : ℕ → List (List ℕ)
supers zero = []
supers (suc n) = codes "super" ∷ supers n

-- the words that begin a path of that kind
pub data Starts : PathKind → List (List ℕ) → Type 0 where
  plain : Starts Plain []
  absolute : Starts Abs []
  crate : Starts Crate (codes "crate" ∷ [])
  own : {n : ℕ} → Starts (Super n) (codes "self" ∷ supers n)
  above : {n : ℕ} → Starts (Super (suc n)) (supers (suc n))

-- what stands before the first word
abbrev pub lead : PathKind → List ℕ
lead Plain = []
lead (Super n) = []
lead Crate = []
lead Abs = codes "::"
lead (DollarCrate c) = []

abbrev pub joined_to : List (List ℕ) → List ℕ
joined_to [] = []
joined_to (w ∷ ws) = 58 ∷ 58 ∷ w ++ joined_to ws

-- the words with `::` between them
abbrev pub joined : List (List ℕ) → List ℕ
joined [] = []
joined (w ∷ ws) = w ++ joined_to ws

-- the text is a path of that kind with these names
pub record Reads (text : List ℕ) (kind : PathKind) (names : List (List ℕ)) : Type 0 where
  pub start : List (List ℕ)
  pub starts : Starts kind start
  pub named : Names names
  pub some : (start ++ names ≡ []) → ⊥
  pub spelled : text ≡ lead kind ++ joined (start ++ names)

-- the text is a path
pub record IsPath (text : List ℕ) : Type 0 where
  pub kind : PathKind
  pub names : List (List ℕ)
  pub reads : Reads text kind names
