-- A path's further names: what one of them leads to, and the walk over all.
use Rattle.std.specs.Prelude.{ℕ, ◌+◌, Bool, true, false, if◌then◌else◌, not, ◌||◌, List, [], ◌∷◌, Some, None, Option, ◌==◌}
use Rattle.hir_def.specs.declared.AdtId.TheVariants as adt
use Rattle.hir_def.specs.declared.EnumId.{EnumId}
use Rattle.hir_def.specs.declared.ModuleId.{ModuleId}
use Rattle.hir_def.specs.declared.ModuleDefId.{ModuleDefId}
use Rattle.hir_def.specs.declared.ModuleDefId.TheVariants as def
use Rattle.hir_def.specs.declared.Name.{Name}
use Rattle.nameres.specs.Shapes.{Shape}
use Rattle.entries.specs.declared.per_ns.PerNs.{PerNs}
use Rattle.entries.specs.Entries.{nothing, of_types, of_both, kept_all}
use Rattle.entries.specs.Visibilities.{settled}
use Rattle.item_scope.specs.declared.index_data.EnumVariant.{EnumVariant}
use Rattle.item_scope.specs.Views.{View, Types, entries_at}
use Rattle.path_resolution.specs.declared.answer.ReachedFixedPoint.TheVariants.{Yes, No}
use Rattle.path_resolution.specs.declared.answer.ResolvePathResult.{ResolvePathResult as Answer}
use Rattle.path_resolution.specs.declared.remaining_segments.Reached.{Reached}
use Rattle.path_resolution.specs.Answers.{resolved}
use Rattle.path_resolution.specs.declared.remaining_segments.Step.{Step}
use Rattle.path_resolution.specs.declared.remaining_segments.Step.TheVariants.{On, Done}

abbrev pub whole : Reached → Answer
whole r = resolved r.entries r.passed

-- empty, No; of another crate's answer the status becomes Yes
abbrev pub unresolved : Reached → Answer
unresolved r = record {
  resolved_def = nothing;
  segment_index = None;
  reached_fixedpoint = if r.passed.differing_crate then Yes else No;
  prefix_info = record { differing_crate = r.passed.differing_crate; enum_variant = false };
}

-- the type so far, and the index of the name that it does not have
abbrev pub stopped : Reached → Types → ℕ → Answer
stopped r ty i = record { resolved_def = of_types ty.def ty.vis ty.import; segment_index = Some i; reached_fixedpoint = Yes; prefix_info = r.passed }

-- a variant has its enum's visibility and no import
abbrev pub variant_of : Types → EnumVariant → PerNs
variant_of ty x =
    if x.has_constructor then of_both (def.EnumVariantId x.variant) (def.EnumVariantId x.variant) ty.vis None
    else of_types (def.EnumVariantId x.variant) ty.vis None

-- what a walk reads: the tree, the enums' variants, and of each name's places what the judge sees
pub record Sight : Type 0 where
  pub tree : Shape
  pub variant : EnumId → Name → Option EnumVariant
  pub sees : ModuleId → Name → PerNs

abbrev pub sight : View → ModuleId → Sight
sight v judge = record { tree = v.fixed.tree; variant = v.fixed.variant; sees = λ m n. kept_all v.fixed.tree judge (entries_at v m n) }

-- a module of another crate than that in which the walk asks
abbrev pub foreign : Shape → Reached → ModuleId → Bool
foreign t r m = not ((t.crate_of m).0 == r.krate.0)

-- a foreign module is asked as `self` there, and so leaves block roots
abbrev pub asked_in : Shape → Reached → ModuleId → ModuleId
asked_in t r m = if foreign t r m then settled t m else m

abbrev pub module_step : Sight → Reached → ModuleId → Name → Reached
module_step s r m n = record {
  entries = s.sees (asked_in s.tree r m) n;
  krate = s.tree.crate_of m;
  passed = record { differing_crate = r.passed.differing_crate || foreign s.tree r m; enum_variant = r.passed.enum_variant };
}

abbrev pub enum_step_by : Option EnumVariant → Reached → Types → ℕ → Step
enum_step_by None r ty i = Done (stopped r ty i)
enum_step_by (Some x) r ty i =
    On (record { entries = variant_of ty x; krate = r.krate; passed = record { differing_crate = r.passed.differing_crate; enum_variant = true } })

abbrev pub def_step : Sight → Reached → Types → ModuleDefId → ℕ → Name → Step
def_step s r ty (def.ModuleId m) i n = On (module_step s r m n)
def_step s r ty (def.AdtId (adt.EnumId e)) i n = enum_step_by (s.variant e n) r ty i
def_step s r ty _ i n = Done (stopped r ty i)

abbrev pub type_step : Sight → Reached → Types → ℕ → Name → Step
type_step s r ty i n = def_step s r ty ty.def i n

-- no name goes into a variant that the path itself named after its enum
abbrev pub step_by : Sight → Reached → Option Types → ℕ → Name → Step
step_by s r None i n = Done (unresolved r)
step_by s r (Some ty) i n = if r.passed.enum_variant then Done (unresolved r) else type_step s r ty i n

-- the i-th name of the path, asked of the type so far
abbrev pub step_of : Sight → Reached → ℕ → Name → Step
step_of s r i n = step_by s r r.entries.types i n

abbrev pub on_step : Step → (Reached → Answer) → Answer
on_step (On r) k = k r
on_step (Done a) k = a

-- names asked one after the other, the first of them the i-th of the path
unfoldable pub walk_of : Sight → Reached → ℕ → List Name → Answer
walk_of s r i [] = whole r
walk_of s r i (n ∷ ns) = on_step (step_of s r i n) (λ next. walk_of s next (i + 1) ns)
