-- Which rows of a table are good, and the first that is not.
use Rattle.std.specs.Prelude.{◌≡◌, ◌≤◌, ℕ, zero, suc, ◌+◌, Bool, true, false, not, ◌&&◌, List, [], ◌∷◌, ◌++◌, length, is_some, Some, None, Option, Ok, Err, Result, nat_lt, if◌then◌else◌}
use Rattle.std.specs.List.{list_all}
use Rattle.hir_def.specs.declared.fault.Failure.{Failure}
use Rattle.hir_def.specs.declared.fault.Fault.{Fault}
use Rattle.hir_def.specs.declared.fault.Fault.TheVariants.{Index}
use Rattle.hir_def.specs.declared.fault.IndexFault.{IndexFault}
use Rattle.hir_def.specs.declared.fault.IndexFault.TheVariants.{BadRow}
use Rattle.hir_def.specs.Faults.{IfRefused}
use Rattle.keyed.specs.declared.row.Row.{Row}
use Rattle.keyed.specs.Entries.{Contents, find, most_rows}

-- the tests of the rows that follow some earlier ones: a row is good if it is of use to a table, its numbers exist, and no
-- earlier row has its key
abbrev pub row_tests : {K V : Type 0} → (K → K → Bool) → (K → V → Bool) → ℕ → List (Row K V) → List (Row K V) → List Bool
row_tests eq exist usable earlier [] = []
row_tests eq exist usable earlier (r ∷ rows) =
    (nat_lt (length earlier) usable && (exist r.key r.value && not (is_some (find eq earlier r.key)))) ∷ row_tests eq exist usable (earlier ++ r ∷ []) rows

-- of so many rows as many are wanted; the first that is missing or beyond is bad
abbrev pub as_many : ℕ → ℕ → List Bool
as_many zero zero = []
as_many zero (suc wanted) = false ∷ []
as_many (suc n) zero = false ∷ []
as_many (suc n) (suc wanted) = true ∷ as_many n wanted

-- the first that fails, where they are counted from a number on
abbrev pub first_bad : List Bool → ℕ → Option ℕ
first_bad [] n = None
first_bad (good ∷ tests) n = if good then first_bad tests (n + 1) else Some n

-- the refusal of that row
abbrev pub IsBadRow : Fault → Option ℕ → Type 0
IsBadRow f o = (p : ℕ) × (f ≡ Index (BadRow p)) × (o ≡ Some p)

-- the rows that pass their tests are taken in, or the first that does not is refused
abbrev pub AnswersTests : {K V : Type 0} → List Bool → ℕ → List (Row K V) → Result (Contents K V) (Failure Fault) → Type 0
AnswersTests tests from rows (Ok t) = (first_bad tests from ≡ None) × (t.entries ≡ rows)
AnswersTests tests from rows (Err e) = IfRefused (λ f. IsBadRow f (first_bad tests from)) e

-- there are as many rows as are wanted, or the first that is missing or beyond is refused
abbrev pub AnswersCount : ℕ → ℕ → ℕ → Result (Unit {0}) IndexFault → Type 0
AnswersCount rows wanted from (Ok u) = first_bad (as_many rows wanted) from ≡ None
AnswersCount rows wanted from (Err f) = IsBadRow (Index f) (first_bad (as_many rows wanted) from)

-- do the numbers of all rows exist
abbrev pub fitting : {K V : Type 0} → (K → V → Bool) → List (Row K V) → Bool
fitting exist rows = list_all (λ r. exist r.key r.value) rows

-- has no row the key of an earlier one
abbrev pub apart : {K V : Type 0} → (K → K → Bool) → List (Row K V) → List (Row K V) → Bool
apart eq earlier [] = true
apart eq earlier (r ∷ rows) = not (is_some (find eq earlier r.key)) && apart eq (earlier ++ r ∷ []) rows

-- the rows of a table pass their tests, taken kind by kind
pub record RowsPass {K V : Type 0} (eq : K → K → Bool) (exist : K → V → Bool) (rows : List (Row K V)) : Type 0 where
  pub numbers : fitting exist rows ≡ true
  pub keys : apart eq [] rows ≡ true
  pub few : length rows ≤ most_rows
