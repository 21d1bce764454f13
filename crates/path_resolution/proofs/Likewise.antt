-- The answers of `crate` paths do not depend on the mode, the shadow mode and the macro kind.
use Rattle.std.proofs.Common.{◌≡◌, List, Option, Result, refl, sym, ◌∙◌, ap, subst}
use Rattle.hir_def.specs.declared.Name.{Name}
use Rattle.hir_def.specs.declared.fault.PathFault.{PathFault}
use Rattle.path_text.specs.declared.mod_path.PathKind.{PathKind}
use Rattle.path_text.specs.declared.mod_path.PathKind.TheVariants.{Crate}
use Rattle.item_scope.specs.Views.{View}
use Rattle.path_resolution.specs.declared.answer.ResolvePathResult.{ResolvePathResult as Answer}
use Rattle.path_resolution.specs.declared.question.BuiltinShadowMode.{BuiltinShadowMode}
use Rattle.path_resolution.specs.declared.question.MacroSubNs.{MacroSubNs}
use Rattle.path_resolution.specs.declared.question.ResolveMode.{ResolveMode}
use Rattle.path_resolution.specs.declared.question.Question.{Question}
use Rattle.path_resolution.specs.Alike.{otherwise, CratePathsAlike}
use Rattle.path_resolution.specs.Outward.{outward_from}
use Rattle.path_resolution.specs.Questions.{answered}
use Rattle.path_resolution.specs.Singles.{single_of, preludes_of}

alike : (v : View) (q : Question) (ns : List Name) (mode : ResolveMode) (shadow : BuiltinShadowMode) (x : Option MacroSubNs) → answered v q Crate ns ≡ answered v (otherwise q mode shadow x) Crate ns
unfolding outward_from single_of preludes_of
alike v q ns mode shadow x = refl

pub crate-paths-alike : (v : View) (q : Question) (k : PathKind) (ms ns : List Name) (r : Result Answer PathFault) → ms ≡ ns → r ≡ answered v q k ms → CratePathsAlike v q k ns r
crate-paths-alike v q k ms ns r same e crate mode shadow x =
    e ∙ ap (answered v q k) same ∙ subst (λ (y : PathKind). answered v q y ns ≡ answered v (otherwise q mode shadow x) y ns) (sym crate) (alike v q ns mode shadow x)
