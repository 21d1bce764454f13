use Rattle.std.proofs.Common.{◌≡◌, ℕ, ◌<◌, true, get_or}
use Rattle.nameres.specs.Rows.{rows_of}
use Rattle.nameres.proofs.tree_rows.first_bad.Given as goal

abbrev pub invariant-loop-i : goal.invariant-loop-i
invariant-loop-i g l = (d : _) (k : ℕ) → k < l.i → g.R.Row.good (rows_of l.tables) k (get_or l.rows k d) ≡ true
