-- Where two runs of the same calls differ is a position of both.
use Rattle.std.proofs.Common.{◌≡◌, ℕ, ◌+◌, ◌<◌, ◌≤◌, Bool, true, false, cond, List, [], ◌∷◌, length, Option, Some, None, arith, ◌∙◌}
use Rattle.std.specs.Prelude.{IfSome}
use Rattle.std.specs.List.{zip, position_from}
use Rattle.std.specs.Option.{option_map_or}
use Rattle.std.proofs.lemmas.List.{length-append}
use Rattle.runs.specs.declared.calls.Call.{Call}
use Rattle.orders.specs.declared.agreement.Agreement.TheVariants.{Agree, Parted}
use Rattle.orders.specs.declared.order.Order.{Order}
use Rattle.orders.specs.declared.order.Order.TheVariants.{NamesFirst, GlobsFirst}
use Rattle.orders.specs.Agreements.{agreement_of, parted_at, differed_at, differ, is_taken, has_changed}
use Rattle.orders.specs.Orders.{by_globs, by_names, reordered}
use Rattle.orders.proofs.Reordered.{both_kinds}
use Rattle.model_runs.specs.Made.{NamesBelow}

further : (o : Option ℕ) (a b : ℕ) → a ≤ b → IfSome o (λ i. i < a) → IfSome o (λ i. i < b)
further None a b h k = tt
further (Some i) a b h k = omega arith

below : {X : Type 0} (p : X → Bool) (k : ℕ) (xs : List X) → IfSome (position_from p k xs) (λ i. i < k + length xs)
below p k [] = tt
below {X} p k (x ∷ xs) =
    let rest : IfSome (position_from p (k + 1) xs) (λ i. i < k + length (x ∷ xs)) = further (position_from p (k + 1) xs) (k + 1 + length xs) (k + length (x ∷ xs)) (omega arith) (below p (k + 1) xs) in
    elim (p x) as (λ b. IfSome (cond b (Some k) (position_from p (k + 1) xs)) (λ i. i < k + length (x ∷ xs))) [ true ↦ omega arith | false ↦ rest ]

zip-length : (xs ys : List Call) → length (zip xs ys) ≤ length xs
zip-length [] ys = omega arith
zip-length (x ∷ xs) [] = omega arith
zip-length (x ∷ xs) (y ∷ ys) = let h : length (zip xs ys) ≤ length xs = zip-length xs ys in omega arith

found : (p : Call × Call → Bool) (xs ys : List Call) → IfSome (position_from p 0 (zip xs ys)) (λ i. i < length xs)
found p xs ys =
    let h : length (zip xs ys) ≤ length xs = zip-length xs ys in
    further (position_from p 0 (zip xs ys)) (0 + length (zip xs ys)) (length xs) (omega arith) (below p 0 (zip xs ys))

either : (o d : Option ℕ) (n : ℕ) → IfSome o (λ i. i < n) → IfSome d (λ i. i < n) → NamesBelow n (option_map_or Parted o (Agree d))
either None d n h k = k
either (Some i) d n h k = h

pub names_below : (xs ys : List Call) → NamesBelow (length xs) (agreement_of xs ys)
names_below xs ys =
    either (parted_at xs ys) (differed_at xs ys) (length xs) (found (λ p. differ (is_taken p.0) (is_taken p.1)) xs ys) (found (λ p. differ (has_changed p.0) (has_changed p.1)) xs ys)

pub reordered-length : (o : Order) (cs : List Call) → length (reordered o cs) ≡ length cs
reordered-length NamesFirst cs = length-append (by_names cs) (by_globs cs) ∙ both_kinds false cs
reordered-length GlobsFirst cs = length-append (by_globs cs) (by_names cs) ∙ both_kinds true cs
