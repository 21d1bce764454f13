-- A small tree, and what ten paths in it lead to.
use Rattle.std.specs.Prelude.{◌≡◌, ℕ, Bool, true, false, if◌then◌else◌, ◌&&◌, List, [], ◌∷◌, map, slice_index_or, Some, None, Ok, Option, ◌==◌}
use Rattle.hir_def.specs.declared.AdtId.TheVariants.{EnumId as Enum}
use Rattle.hir_def.specs.declared.edition.Edition.TheVariants.{Edition2015, Edition2021}
use Rattle.hir_def.specs.declared.ModuleId.{ModuleId}
use Rattle.hir_def.specs.declared.ModuleDefId.{ModuleDefId}
use Rattle.hir_def.specs.declared.ModuleDefId.TheVariants as def
use Rattle.hir_def.specs.declared.Name.{Name}
use Rattle.nameres.specs.Shapes.{Shape}
use Rattle.path_text.specs.declared.mod_path.PathKind.{PathKind}
use Rattle.path_text.specs.declared.mod_path.PathKind.TheVariants.{Plain, Crate}
use Rattle.entries.specs.declared.per_ns.Item.{Item}
use Rattle.entries.specs.declared.per_ns.PerNs.{PerNs}
use Rattle.entries.specs.declared.visibility.Visibility.{Visibility}
use Rattle.entries.specs.declared.visibility.Visibility.TheVariants.{Module, PubCrate, Public}
use Rattle.entries.specs.declared.visibility.VisibilityExplicitness.TheVariants.{Implicit}
use Rattle.entries.specs.Entries.{nothing, of_types, of_values, of_both}
use Rattle.item_scope.specs.declared.place.Place.{Place}
use Rattle.item_scope.specs.declared.place.Place.TheVariants.{Empty, ByName}
use Rattle.item_scope.specs.IndexData.{IndexData, no_styles}
use Rattle.item_scope.specs.Views.{View}
use Rattle.path_resolution.specs.declared.answer.ReachedFixedPoint.{ReachedFixedPoint}
use Rattle.path_resolution.specs.declared.answer.ReachedFixedPoint.TheVariants.{Yes, No}
use Rattle.path_resolution.specs.declared.answer.ResolvePathResult.{ResolvePathResult as Answer}
use Rattle.path_resolution.specs.declared.question.BuiltinShadowMode.TheVariants as shadow
use Rattle.path_resolution.specs.declared.question.ResolveMode.TheVariants as mode
use Rattle.path_resolution.specs.declared.question.Question.{Question}
use Rattle.path_resolution.specs.Questions.{answered}

abbrev pub module_at : ℕ → ModuleId
module_at n = record { 0 = n }

abbrev pub private_to : ℕ → Visibility
private_to m = Module (module_at m) Implicit

abbrev pub module_def : ℕ → ModuleDefId
module_def n = def.ModuleId (module_at n)

abbrev pub function_def : ℕ → ModuleDefId
function_def n = def.FunctionId (record { 0 = n })

abbrev pub enum_def : ModuleDefId
enum_def = def.AdtId (Enum (record { 0 = 0 }))

abbrev pub variant_def : ModuleDefId
variant_def = def.EnumVariantId (record { 0 = 0 })

-- an item of a module under a name
pub record Row : Type 0 where
  pub in_module : ℕ
  pub name : ℕ
  pub def : ModuleDefId
  pub vis : Visibility

abbrev pub place_in : {M : Type 0} → List Row → ModuleId → Name → Place (Item ModuleDefId M)
place_in [] m n = Empty
place_in (r ∷ rs) m n =
    if m.0 == r.in_module && n.0 == r.name then ByName (record { def = r.def; vis = r.vis; import = None }) else place_in rs m n

-- names: 20 a, 21 b, 22 c, 23 e, 24 f, 25 g, 26 v
abbrev pub types_rows : List Row
types_rows =
    record { in_module = 0; name = 20; def = module_def 1; vis = private_to 0 }
    ∷ record { in_module = 0; name = 22; def = module_def 3; vis = private_to 0 }
    ∷ record { in_module = 0; name = 23; def = enum_def; vis = PubCrate (record { 0 = 0 }) }
    ∷ record { in_module = 1; name = 21; def = module_def 2; vis = private_to 1 }
    ∷ []

abbrev pub values_rows : List Row
values_rows =
    record { in_module = 1; name = 24; def = function_def 7; vis = private_to 1 }
    ∷ record { in_module = 2; name = 24; def = function_def 8; vis = Public }
    ∷ record { in_module = 3; name = 25; def = function_def 10; vis = private_to 2 }
    ∷ []

abbrev pub small_shape : Shape
small_shape = record {
  modules = 4;
  blocks = 0;
  crates = 1;
  crate_of = λ m. record { 0 = 0 };
  block_of = λ m. None;
  parent_of = λ m. slice_index_or (None ∷ Some (module_at 0) ∷ Some (module_at 1) ∷ Some (module_at 0) ∷ []) m.0 None;
  block_root = λ b. module_at 0;
  outside_of = λ b. module_at 0;
  crate_root = λ c. module_at 0;
  edition_of = λ c. if c.0 == 0 then Edition2021 else Edition2015;
}

abbrev pub small_data : IndexData
small_data = record {
  tree = small_shape;
  names = 27;
  enums = 1;
  macro_count = 0;
  extern_prelude = λ c n. None;
  macro_use = λ m n. None;
  prelude = λ m. None;
  legacy = λ m n. None;
  variant = λ e n. if e.0 == 0 && n.0 == 26 then Some (record { variant = record { 0 = 0 }; has_constructor = true }) else None;
  styles = λ m. no_styles;
}

unfoldable pub small_tree : View
small_tree = record { fixed = small_data; types = place_in types_rows; values = place_in values_rows; macros = λ m n. Empty }

abbrev pub asked_in : ℕ → Question
asked_in m = record { mode = mode.Other; original_module = module_at m; shadow = shadow.Module; expected_macro_subns = None }

-- what the path of that kind with those names, asked in the module m, answers
abbrev pub Answers : PathKind → List ℕ → ℕ → Answer → Type 0
Answers k ns m a = answered small_tree (asked_in m) k (map (λ n. record { 0 = n }) ns) ≡ Ok a

abbrev pub told : PerNs → Option ℕ → ReachedFixedPoint → Bool → Answer
told p i s variant = record { resolved_def = p; segment_index = i; reached_fixedpoint = s; prefix_info = record { differing_crate = false; enum_variant = variant } }

pub record Cases : Type 0 where
  pub a : Answers Crate (20 ∷ []) 3 (told (of_types (module_def 1) (private_to 0) None) None Yes false)
  pub a-f_hidden : Answers Crate (20 ∷ 24 ∷ []) 3 (told nothing None Yes false)
  pub a-f : Answers Crate (20 ∷ 24 ∷ []) 2 (told (of_values (function_def 7) (private_to 1) None) None Yes false)
  pub a-b-f_hidden : Answers Crate (20 ∷ 21 ∷ 24 ∷ []) 3 (told nothing None No false)
  pub a-b-f : Answers Crate (20 ∷ 21 ∷ 24 ∷ []) 1 (told (of_values (function_def 8) Public None) None Yes false)
  pub e-v : Answers Crate (23 ∷ 26 ∷ []) 3 (told (of_both variant_def variant_def (PubCrate (record { 0 = 0 })) None) None Yes true)
  pub e-f : Answers Crate (23 ∷ 24 ∷ []) 3 (told (of_types enum_def (PubCrate (record { 0 = 0 })) None) (Some 1) Yes false)
  pub e-v-f : Answers Crate (23 ∷ 26 ∷ 24 ∷ []) 3 (told nothing None No false)
  pub g : Answers Plain (25 ∷ []) 3 (told (of_values (function_def 10) (private_to 2) None) None Yes false)
  pub c-g_hidden : Answers Crate (22 ∷ 25 ∷ []) 3 (told nothing None Yes false)
