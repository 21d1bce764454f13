-- The place at which a text that is no path is refused, in words of the language alone.
use Rattle.std.specs.Prelude.{◌≡◌, ℕ, suc, ◌<◌, ◌⊎◌, List, ◌++◌, length, take, drop, codes}
use Rattle.path_text.specs.Words.{NoInner}

-- one of the three words that are no names
pub data Keyword : List ℕ → Type 0 where
  crate : Keyword (codes "crate")
  own : Keyword (codes "self")
  super : Keyword (codes "super")

module _ (L : List ℕ → Type 0) (bs : List ℕ) where
  -- the first i bytes begin some text of the language
  abbrev pub Begins : ℕ → Type 0
  Begins i = (more : List ℕ) × L (take i bs ++ more)

  -- a whole keyword starts at i, and no text of the language with these first i bytes has it there
  pub record Barred (i : ℕ) : Type 0 where
    pub word : List ℕ
    pub rest : List ℕ
    pub keyword : Keyword word
    pub here : drop i bs ≡ word ++ rest
    pub whole : NoInner rest
    pub nowhere : (more : List ℕ) → NoInner more → L (take i bs ++ word ++ more) → ⊥

  -- the first i + 1 bytes begin none
  abbrev pub Dead : ℕ → Type 0
  Dead i = (i < length bs) × ((more : List ℕ) → L (take (suc i) bs ++ more) → ⊥)

  abbrev pub Halts : ℕ → Type 0
  Halts i = Begins i × ((i ≡ length bs) ⊎ (Dead i ⊎ Barred i))

  -- the first place at which the text halts
  pub record RefusedAt (e : ℕ) : Type 0 where
    pub no-path : L bs → ⊥
    pub halts : Halts e
    pub first : (i : ℕ) → i < e → Halts i → ⊥
