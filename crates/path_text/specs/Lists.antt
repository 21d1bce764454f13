-- Name lists: the lines of a text, the number of a name, and which lines are at fault.
use Rattle.std.specs.Prelude.{◌≡◌, ℕ, zero, suc, ◌⊎◌, ◌++◌, ◌+◌, ◌-◌, ◌<◌, ◌≤◌, Bool, true, cond, if◌then◌else◌, not, ◌&&◌, ◌||◌, List, [], ◌∷◌, length, get_or, Some, None, Ok, Err, Option, Result, ◌==◌, ◌≢◌, nat_le, nat_lt, slice_index_or}
use Rattle.std.specs.List.{slice_get}
use Rattle.std.specs.Str.{bytes_eq}
use Rattle.hir_def.specs.declared.Name.{Name}
use Rattle.hir_def.specs.declared.fault.TextFault.{TextFault}
use Rattle.hir_def.specs.declared.fault.TextFault.TheVariants.{BadLine}
use Rattle.hir_def.specs.Builtins.{text_at}

-- one more byte at the start of the first line
abbrev pub glue : ℕ → List (List ℕ) → List (List ℕ)
glue b [] = []
glue b (l ∷ ls) = (b ∷ l) ∷ ls

-- the finished lines: a line feed ends each, and what follows the last one is none
abbrev pub lines_of : List ℕ → List (List ℕ)
lines_of [] = []
lines_of (b ∷ bs) = cond (b == 10) ([] ∷ lines_of bs) (glue b (lines_of bs))

-- an unfinished line ends the text: there is a last byte, and it is no line feed
abbrev pub unfinished : List ℕ → Bool
unfinished bs = not (slice_index_or bs (length bs - 1) 10 == 10)

-- no line feed stands in the text
pub record OneLine (bs : List ℕ) : Type 0 where
  pub none : lines_of bs ≡ []
  pub half : unfinished bs ≡ nat_lt 0 (length bs)

-- the text is a finished line l and what follows its line feed
pub record Split (bs l after : List ℕ) : Type 0 where
  pub lines : lines_of bs ≡ l ∷ lines_of after
  pub half : unfinished bs ≡ unfinished after
  pub shorter : length after < length bs

-- the built-in name of that number
abbrev pub builtin_line : ℕ → List ℕ
builtin_line i = text_at (record { 0 = i })

-- a finished line is not one too many and, among the first nineteen, it is the built-in name
abbrev pub good_line : ℕ → ℕ → List ℕ → Bool
good_line n i l = nat_lt i n && (nat_le 19 i || bytes_eq l (builtin_line i))

-- the first line at fault of a list for n names, where the lines are counted from i
abbrev pub bad_from : List (List ℕ) → Bool → ℕ → ℕ → Option ℕ
bad_from [] half n i = if half || (nat_lt i n || nat_lt i 19) then Some i else None
bad_from (l ∷ ls) half n i = if good_line n i l then bad_from ls half n (i + 1) else Some i

abbrev pub bad_line : List ℕ → ℕ → Option ℕ
bad_line bs n = bad_from (lines_of bs) (unfinished bs) n 0

-- the list fits an index with n names
pub record Fits (bs : List ℕ) (n : ℕ) : Type 0 where
  pub count : length (lines_of bs) ≡ n
  -- the last byte, if there is one, is a line feed
  pub whole : get_or bs (length bs - 1) 10 ≡ 10
  pub built_in : (i : ℕ) → i < 19 → slice_get (lines_of bs) i ≡ Some (builtin_line i)

-- the rule that line i breaks
pub data AtFault (bs : List ℕ) (n i : ℕ) : Type 0 where
  -- of a finished line
  too_many : i < length (lines_of bs) → n ≤ i → AtFault bs n i
  not-built-in : i < length (lines_of bs) → i < 19 → (slice_get (lines_of bs) i ≢ Some (builtin_line i)) → AtFault bs n i
  -- of the line after the last finished one
  half-done : i ≡ length (lines_of bs) → unfinished bs ≡ true → AtFault bs n i
  no_name : i ≡ length (lines_of bs) → i < n → AtFault bs n i
  no-built-in : i ≡ length (lines_of bs) → i < 19 → AtFault bs n i

-- no number has it
abbrev pub Never : (ℕ → Type 0) → Type 0
Never P = (k : ℕ) → P k → ⊥

-- i has it, and no lower number does
abbrev pub FirstAt : (ℕ → Type 0) → ℕ → Type 0
FirstAt P i = P i × ((k : ℕ) → k < i → P k → ⊥)

-- the refusal names the first line at fault
abbrev pub FirstBad : List ℕ → ℕ → TextFault → Type 0
FirstBad bs n e = (i : ℕ) × (e ≡ BadLine i) × FirstAt (AtFault bs n) i

-- the list is not what it should be, and the refusal names the first line at fault
pub record Misfit (bs : List ℕ) (n : ℕ) (e : TextFault) : Type 0 where
  pub first : FirstBad bs n e
  pub unfit : Fits bs n → ⊥

-- the number of the first line that is the name, where the lines are counted from i
abbrev pub first : List (List ℕ) → List ℕ → ℕ → Option ℕ
first [] t i = None
first (l ∷ ls) t i = if bytes_eq l t then Some i else first ls t (i + 1)

abbrev pub as_name : Option ℕ → Option Name
as_name None = None
as_name (Some i) = Some (record { 0 = i })

-- line i is the name
abbrev pub IsLineAt : List (List ℕ) → List ℕ → ℕ → Type 0
IsLineAt ls t i = slice_get ls i ≡ Some t

-- a list stays as it is where it has the name, and else gets one line more
abbrev pub Grows : List (List ℕ) → List ℕ → List (List ℕ) → Type 0
Grows ls t ls' = (((i : ℕ) × IsLineAt ls t i) × (ls' ≡ ls)) ⊎ (Never (IsLineAt ls t) × (ls' ≡ ls ++ t ∷ []))

abbrev pub builtin_lines : ℕ → List (List ℕ)
builtin_lines zero = []
builtin_lines (suc n) = builtin_lines n ++ builtin_line n ∷ []

-- the lines of a list, or its first line at fault
abbrev pub listed : Option ℕ → List (List ℕ) → Result (List (List ℕ)) TextFault
listed None ls = Ok ls
listed (Some i) ls = Err (BadLine i)

abbrev pub made_of : List ℕ → ℕ → Result (List (List ℕ)) TextFault
made_of bs n = listed (bad_line bs n) (lines_of bs)
