-- What the answers of `crate` paths do not depend on.
use Rattle.std.specs.Prelude.{◌≡◌, List, Option, Result}
use Rattle.hir_def.specs.declared.Name.{Name}
use Rattle.hir_def.specs.declared.fault.PathFault.{PathFault}
use Rattle.path_text.specs.declared.mod_path.PathKind.{PathKind}
use Rattle.path_text.specs.declared.mod_path.PathKind.TheVariants.{Crate}
use Rattle.item_scope.specs.Views.{View}
use Rattle.path_resolution.specs.declared.answer.ResolvePathResult.{ResolvePathResult as Answer}
use Rattle.path_resolution.specs.declared.question.BuiltinShadowMode.{BuiltinShadowMode}
use Rattle.path_resolution.specs.declared.question.MacroSubNs.{MacroSubNs}
use Rattle.path_resolution.specs.declared.question.ResolveMode.{ResolveMode}
use Rattle.path_resolution.specs.declared.question.Question.{Question}
use Rattle.path_resolution.specs.Questions.{answered}

-- the same asked in another mode, shadow mode and macro kind
abbrev pub otherwise : Question → ResolveMode → BuiltinShadowMode → Option MacroSubNs → Question
otherwise q mode shadow x = record { mode = mode; original_module = q.original_module; shadow = shadow; expected_macro_subns = x }

-- a `crate` path has the same answer in every mode, shadow mode and macro kind
abbrev pub CratePathsAlike : View → Question → PathKind → List Name → Result Answer PathFault → Type 0
CratePathsAlike v q k ns r =
    k ≡ Crate → (mode : ResolveMode) (shadow : BuiltinShadowMode) (x : Option MacroSubNs) → r ≡ answered v (otherwise q mode shadow x) k ns
