-- What the paths of a file are read as, and where a bad one is told.
use Rattle.std.specs.Prelude.{◌≡◌, ℕ, ◌+◌, ◌-◌, ◌^◌, min, List, [], ◌∷◌, take, Some, Result, MatchResult, vec_items}
use Rattle.std.specs.Global.{Vec}
use Rattle.std.specs.List.{slice_get}
use Rattle.hir_def.specs.declared.fault.TextFault.{TextFault}
use Rattle.hir_def.specs.declared.fault.TextFault.TheVariants.{TooManyNames, TooManySupers, BadLine, BadText, UnknownName}
use Rattle.path_text.specs.declared.mod_path.ModPath.{ModPath}
use Rattle.path_text.specs.Laws.{IsRead, Denies, IsReadable}
use Rattle.hir_def.specs.Faults.{IfRefused}
use Rattle.hir_def.specs.declared.fault.Failure.{Failure}
use Rattle.hir_def.specs.declared.fault.Failure.TheVariants.{Memory, Refused}
use Rattle.troubles.specs.declared.complaint.Complaint.{Complaint}
use Rattle.troubles.specs.declared.trouble.Trouble.{Trouble}
use Rattle.troubles.specs.declared.trouble.Trouble.TheVariants.{Text, Tables}
use Rattle.source_text.specs.declared.words.Word.{Word}

-- each path is the reading of its word
abbrev pub AllRead : List (List ℕ) → List Word → List ModPath → Type 0
AllRead ls [] [] = Unit {0}
AllRead ls [] (p ∷ ps) = ⊥
AllRead ls (w ∷ ws) [] = ⊥
AllRead ls (w ∷ ws) (p ∷ ps) = IsRead ls w.text.now p.kind (vec_items p.names) × AllRead ls ws ps

-- the byte of a path that a refusal tells; a count tells none, and then it is the first
abbrev pub byte_of : TextFault → ℕ
byte_of TooManyNames = 0
byte_of TooManySupers = 0
byte_of (BadLine line) = 0
byte_of (BadText at) = at
byte_of (UnknownName at) = at

-- a column so many bytes on, or the last one that a number can tell
abbrev pub column_at : ℕ → ℕ → ℕ
column_at column bytes = min (column + bytes) (2 ^ 64 - 1)

-- a refusal of a word is told in the word's line, at the byte
abbrev pub TellsAt : Word → TextFault → Complaint → Type 0
TellsAt w f c = (c.line ≡ w.line) × (c.column ≡ column_at w.column (byte_of f))

-- that is why a file is not taken; want of memory stays what it is
abbrev pub Tells : Word → Failure TextFault → Failure Trouble → Type 0
Tells w (Memory e) r = r ≡ Memory e
Tells w (Refused f) (Refused (Text c)) = TellsAt w f c
Tells w (Refused f) (Refused (Tables g)) = ⊥
Tells w (Refused f) (Memory e) = ⊥

-- the first bad word, after words that were read, and where it is told
pub record FirstBad (ls : List (List ℕ)) (words : List Word) (t : Trouble) : Type 0 where
  pub number : ℕ
  pub read : List ModPath
  pub before : AllRead ls (take number words) read
  pub word : Word
  pub here : slice_get words number ≡ Some word
  pub fault : TextFault
  pub denied : Denies ls word.text.now fault
  pub tells : Tells word (Refused fault) (Refused t)

-- all words are read, or the first bad one is told
abbrev pub ReadsAll : List (List ℕ) → List Word → Result (Vec ModPath) (Failure Trouble) → Type 0
ReadsAll ls words r = MatchResult r (λ v. AllRead ls words (vec_items v)) (IfRefused (FirstBad ls words))

-- where memory was wanting: at a word that can be read, after words that were read
pub record WantsAt (ls : List (List ℕ)) (words : List Word) : Type 0 where
  pub number : ℕ
  pub read : List ModPath
  pub before : AllRead ls (take number words) read
  pub word : Word
  pub here : slice_get words number ≡ Some word
  pub readable : IsReadable ls word.text.now
