-- Which modules may see an item.
use Rattle.std.specs.Prelude.{◌<◌, ◌&&◌, ◌↔◌, List, map, filter, not, nat_lt, Ok, Err, Result, if◌then◌else◌}
use Rattle.std.specs.List.{range_with_len, AllPairs, Contains}
use Rattle.hir_def.specs.declared.ModuleId.{ModuleId}
use Rattle.hir_def.specs.declared.fault.TreeFault.{TreeFault}
use Rattle.hir_def.specs.declared.fault.TreeFault.TheVariants.{Dangling}
use Rattle.entries.specs.declared.visibility.Visibility.{Visibility}
use Rattle.nameres.specs.Shapes.{Shape, ModuleIn}
use Rattle.entries.specs.Visibilities.{Sees, named, visible}

abbrev pub all_modules : Shape → List ModuleId
all_modules t = map (λ n. record { 0 = n }) (range_with_len 0 t.modules)

-- the modules that see; refused where there is one to ask, but what the visibility names does not exist
abbrev pub viewers_of : Shape → Visibility → Result (List ModuleId) TreeFault
viewers_of t v =
    if nat_lt 0 t.modules && not (named t v) then Err Dangling else Ok (filter (λ m. visible t m v) (all_modules t))

-- exactly the modules that see, in the order of their numbers, each once
pub record ListsViewers (t : Shape) (v : Visibility) (list : List ModuleId) : Type 0 where
  pub each : (m : ModuleId) → Contains list m ↔ (ModuleIn t m × Sees t m v)
  pub rising : AllPairs (λ a b. a.0 < b.0) list
