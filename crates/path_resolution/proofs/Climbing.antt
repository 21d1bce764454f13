-- Climbing by `super`: what the loop over the levels keeps.
use Rattle.std.proofs.Common.{◌≡◌, ℕ, suc, ◌+◌, ◌-◌, ◌<◌, ◌≤◌, Some, None, arith}
use Rattle.hir_def.specs.declared.ModuleId.{ModuleId}
use Rattle.nameres.specs.Shapes.{Shape}
use Rattle.entries.specs.Visibilities.{settled}
use Rattle.path_resolution.specs.Starts.{climbed}

module _ (t : Shape) (m : ModuleId) (n i : ℕ) where
  -- one level more
  pub climb-turn : (p q : ModuleId) → i < n → Some p ≡ t.parent_of m → q ≡ settled t p → climbed t (n - (i + 1)) q ≡ climbed t (n - i) m
  unfolding climbed
  climb-turn p q h e f = let more : n - i ≡ suc (n - (i + 1)) = omega arith in rw (more, ← e, f)

  -- a missing parent
  pub climb-stop : i < n → None ≡ t.parent_of m → None ≡ climbed t (n - i) m
  unfolding climbed
  climb-stop h e = let more : n - i ≡ suc (n - (i + 1)) = omega arith in rw (more, ← e)

  -- no level is left
  pub climb-end : n ≤ i → Some m ≡ climbed t (n - i) m
  unfolding climbed
  climb-end h = let none : n - i ≡ 0 = omega arith in rw none

-- what the check applies to the loop
pub ruleset climbs = (climb-turn, climb-stop, climb-end)
