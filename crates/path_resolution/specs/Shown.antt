-- Paths that name their start show only what the asking module may see.
use Rattle.std.specs.Prelude.{◌≡◌, Bool, true, false, Some, None, Option}
use Rattle.hir_def.specs.declared.ModuleId.{ModuleId}
use Rattle.nameres.specs.Shapes.{Shape}
use Rattle.path_text.specs.declared.mod_path.PathKind.{PathKind}
use Rattle.path_text.specs.declared.mod_path.PathKind.TheVariants.{Plain, Super, Crate, Abs, DollarCrate}
use Rattle.entries.specs.declared.per_ns.Item.{Item}
use Rattle.entries.specs.declared.per_ns.PerNs.{PerNs}
use Rattle.entries.specs.Visibilities.{Sees}
use Rattle.item_scope.specs.Views.{View}
use Rattle.path_resolution.specs.declared.answer.ResolvePathResult.{ResolvePathResult as Answer}
use Rattle.path_resolution.specs.declared.question.Question.{Question}

-- `crate`, `$crate`, `self` and `super`
abbrev pub names_its_start : PathKind → Bool
names_its_start Plain = false
names_its_start (Super level) = true
names_its_start Crate = true
names_its_start Abs = false
names_its_start (DollarCrate c) = true

-- an entry, if there is one, may be seen from the module
abbrev pub Shows : {D M : Type 0} → Shape → ModuleId → Option (Item D M) → Type 0
Shows t from None = Unit {0}
Shows t from (Some it) = Sees t from it.vis

pub record ShowsAll (t : Shape) (from : ModuleId) (p : PerNs) : Type 0 where
  pub types : Shows t from p.types
  pub values : Shows t from p.values
  pub macros : Shows t from p.macros

-- in blocks and outside, however many crates the path passes
abbrev pub ShowsVisible : View → Question → PathKind → Answer → Type 0
ShowsVisible v q k a = names_its_start k ≡ true → ShowsAll v.fixed.tree q.original_module a.resolved_def
