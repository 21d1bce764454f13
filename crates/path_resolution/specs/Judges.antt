-- Who judges what may be seen while modules further outward are asked.
use Rattle.std.specs.Prelude.{◌≡◌, ◌↔◌, Some}
use Rattle.hir_def.specs.declared.ModuleId.{ModuleId}
use Rattle.nameres.specs.Shapes.{Shape, block_exit}
use Rattle.entries.specs.declared.visibility.Visibility.{Visibility}
use Rattle.entries.specs.Visibilities.{Sees}

-- a block's root and the module that the block stands in see the same, so it is one whether the original module judges or the
-- one that is asked
abbrev pub SeeTheSame : Shape → Type 0
SeeTheSame t = (m p : ModuleId) → block_exit t m ≡ Some p → (vis : Visibility) → Sees t m vis ↔ Sees t p vis
