-- The table of a name list: each line's number.
use Rattle.std.specs.Prelude.{◌≡◌, ℕ, List, map, cond, Some, None}
use Rattle.std.specs.Option.{option_or}
use Rattle.std.specs.Borrow.{Bor}
use Rattle.std.specs.Str.{bytes_eq}
use Rattle.std.specs.Ordering.{nat_cmp}
use Rattle.std.specs.Cmp.Lexicographic.{slice_cmp}
use Rattle.std.specs.BTreeMap.{BTreeMap, get_by}
use Rattle.hir_def.specs.declared.Name.{Name}
use Rattle.path_text.specs.Lists.{first, as_name}

abbrev pub contents : List (Bor (List ℕ)) → List (List ℕ)
contents ss = map (λ s. s.now) ss

-- every name has the number of the first line equal to it
abbrev pub IsNumbered : List (List ℕ) → BTreeMap (Bor (List ℕ)) Name → Type 0
IsNumbered ls m = (q : List ℕ) → get_by (λ k. slice_cmp nat_cmp q k.now) m ≡ as_name (first ls q 0)

-- a line has a number too, and the first one that it had
abbrev pub Numbers : BTreeMap (Bor (List ℕ)) Name → List ℕ → Name → BTreeMap (Bor (List ℕ)) Name → Type 0
Numbers m l n m' = (q : List ℕ) → get_by (λ k. slice_cmp nat_cmp q k.now) m' ≡ option_or (get_by (λ k. slice_cmp nat_cmp q k.now) m) (cond (bytes_eq l q) (Some n) None)
