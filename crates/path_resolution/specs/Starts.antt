-- Where paths begin.
use Rattle.std.specs.Prelude.{ℕ, zero, suc, Some, None, Option}
use Rattle.std.specs.Option.{option_and_then, option_map_or}
use Rattle.hir_def.specs.declared.ModuleId.{ModuleId}
use Rattle.hir_def.specs.declared.ModuleDefId.TheVariants as def
use Rattle.nameres.specs.Shapes.{Shape}
use Rattle.entries.specs.declared.per_ns.PerNs.{PerNs}
use Rattle.entries.specs.declared.visibility.Visibility.TheVariants.{Public}
use Rattle.entries.specs.Entries.{of_types}
use Rattle.entries.specs.Visibilities.{settled}
use Rattle.item_scope.specs.declared.index_data.DefMapId.{DefMapId}
use Rattle.item_scope.specs.declared.index_data.DefMapId.TheVariants as map
use Rattle.path_resolution.specs.declared.remaining_segments.Reached.{Reached}
use Rattle.path_resolution.specs.Answers.{no_flags}

-- a path that is asked in m begins with entries
abbrev pub begun : Shape → ModuleId → PerNs → Reached
begun t m p = record { entries = p; krate = t.crate_of m; passed = no_flags }

-- or at a module, which is public
abbrev pub start_at : Shape → ModuleId → ModuleId → Reached
start_at t m start = begun t m (of_types (def.ModuleId start) Public None)

abbrev pub map_of : Shape → ModuleId → DefMapId
map_of t m = option_map_or map.Block (t.block_of m) (map.Crate (t.crate_of m))

-- n times to the parent; block roots are left after each climb
unfoldable pub climbed : Shape → ℕ → ModuleId → Option ModuleId
climbed t zero m = Some m
climbed t (suc n) m = option_and_then (λ p. climbed t n (settled t p)) (t.parent_of m)

-- and before the first
abbrev pub super_of : Shape → ℕ → ModuleId → Option ModuleId
super_of t n m = climbed t n (settled t m)
