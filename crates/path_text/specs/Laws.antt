-- What a path that was read, or a refusal, says of its text.
use Rattle.std.specs.Prelude.{◌≡◌, ℕ, ◌<◌, ◌≤◌, List, [], ◌∷◌, ◌++◌, length, Some}
use Rattle.std.specs.List.{slice_get}
use Rattle.hir_def.specs.declared.Name.{Name}
use Rattle.hir_def.specs.declared.fault.TextFault.{TextFault}
use Rattle.hir_def.specs.declared.fault.TextFault.TheVariants.{TooManyNames, TooManySupers, BadLine, BadText, UnknownName}
use Rattle.path_text.specs.declared.mod_path.PathKind.{PathKind}
use Rattle.path_text.specs.declared.mod_path.PathKind.TheVariants.{Super}
use Rattle.path_text.specs.Grammar.{lead, Reads, IsPath}
use Rattle.path_text.specs.Words.{closed}
use Rattle.path_text.specs.Places.{RefusedAt}
use Rattle.path_text.specs.Lists.{first}

-- each number is that of the first line equal to the name
abbrev pub Numbered : List (List ℕ) → List (List ℕ) → List Name → Type 0
Numbered ls [] [] = Unit {0}
Numbered ls (w ∷ ws) (n ∷ ns) = (first ls w 0 ≡ Some n.0) × Numbered ls ws ns
Numbered ls _ _ = ⊥

-- how many `super` a path of that kind begins with
abbrev pub level_of : PathKind → ℕ
level_of (Super n) = n
level_of _ = 0

-- the grammar reads the text as that kind with these names, and in no other way
pub record IsRead (ls : List (List ℕ)) (text : List ℕ) (kind : PathKind) (numbers : List Name) : Type 0 where
  pub names : List (List ℕ)
  pub reads : Reads text kind names
  pub only : (k : PathKind) (ws : List (List ℕ)) → Reads text k ws → (k ≡ kind) × (ws ≡ names)
  pub few : length names ≤ 64
  pub low : level_of kind ≤ 255
  pub numbered : Numbered ls names numbers

-- the text is a path of more than 64 names
pub record TooLong (text : List ℕ) : Type 0 where
  pub kind : PathKind
  pub names : List (List ℕ)
  pub reads : Reads text kind names
  pub many : 64 < length names

-- the text is a path of more than 255 `super`, and of no more names than may be
pub record TooHigh (text : List ℕ) : Type 0 where
  pub kind : PathKind
  pub names : List (List ℕ)
  pub reads : Reads text kind names
  pub few : length names ≤ 64
  pub high : 255 < level_of kind

abbrev pub IsLine : List (List ℕ) → List ℕ → Type 0
IsLine ls w = (i : ℕ) × (slice_get ls i ≡ Some w)

abbrev pub AllLines : List (List ℕ) → List (List ℕ) → Type 0
AllLines ls [] = Unit {0}
AllLines ls (w ∷ ws) = IsLine ls w × AllLines ls ws

-- the text is a path within the counts, and its first name that is no line stands at that place
pub record Unlisted (ls : List (List ℕ)) (text : List ℕ) (place : ℕ) : Type 0 where
  pub kind : PathKind
  pub before : List (List ℕ)
  pub name : List ℕ
  pub more : List (List ℕ)
  pub reads : Reads text kind (before ++ name ∷ more)
  pub few : length (before ++ name ∷ more) ≤ 64
  pub low : level_of kind ≤ 255
  pub listed : AllLines ls before
  pub unlisted : IsLine ls name → ⊥
  -- so many bytes are before it: the words before it, each with `::` after it
  pub here : place ≡ length (lead kind ++ closed (reads.start ++ before))

-- a refused text is no path, or a path whose counts or names are at fault
abbrev pub Denies : List (List ℕ) → List ℕ → TextFault → Type 0
Denies ls text TooManyNames = TooLong text
Denies ls text TooManySupers = TooHigh text
Denies ls text (BadLine line) = ⊥
Denies ls text (BadText at) = RefusedAt IsPath text at
Denies ls text (UnknownName at) = Unlisted ls text at

-- the text is a path within the counts, and all its names are lines
abbrev pub IsReadable : List (List ℕ) → List ℕ → Type 0
IsReadable ls text = (kind : PathKind) × (numbers : List Name) × IsRead ls text kind numbers
