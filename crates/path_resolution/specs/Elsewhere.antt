-- Where a path leads out of its map, the rest of it is a question of its own: a `self` path that is asked there.
use Rattle.std.specs.Prelude.{◌≡◌, ℕ, ◌+◌, true, false, List, ◌∷◌, Some, None}
use Rattle.std.specs.Option.{option_map}
use Rattle.hir_def.specs.declared.ModuleId.{ModuleId}
use Rattle.hir_def.specs.declared.ModuleDefId.TheVariants as def
use Rattle.hir_def.specs.declared.Name.{Name}
use Rattle.path_text.specs.declared.mod_path.PathKind.TheVariants.{Super}
use Rattle.entries.specs.declared.per_ns.PerNs.{PerNs}
use Rattle.item_scope.specs.contracts.index_data.DefMapIdPartialEq.TheImpl.{eq-value as same_map}
use Rattle.item_scope.specs.Views.{View, Types}
use Rattle.path_resolution.specs.declared.answer.ReachedFixedPoint.TheVariants.{Yes}
use Rattle.path_resolution.specs.declared.answer.ResolvePathResult.{ResolvePathResult as Answer}
use Rattle.path_resolution.specs.declared.question.Question.{Question}
use Rattle.path_resolution.specs.declared.remaining_segments.Reached.{Reached}
use Rattle.path_resolution.specs.declared.remaining_segments.Step.TheVariants.{On}
use Rattle.path_resolution.specs.Outward.{outward}
use Rattle.path_resolution.specs.Singles.{single_of}
use Rattle.path_resolution.specs.Starts.{begun, map_of, super_of}
use Rattle.path_resolution.specs.Walks.{Sight, sight, foreign, step_of, walk_of}

-- as another crate is asked: with an empty extern prelude
abbrev pub no_extern_prelude : View → View
no_extern_prelude v = record v { fixed = record v.fixed { extern_prelude = λ c n. None } }

-- and without a macro kind; the original module, and so the judge of who may see, stays
abbrev pub no_macro_kind : Question → Question
no_macro_kind q = record { mode = q.mode; original_module = q.original_module; shadow = q.shadow; expected_macro_subns = None }

-- the names as a `self` path that is asked in the module m, and outward from there
abbrev pub asked_abroad : View → Question → List Name → ModuleId → Answer
asked_abroad v q ns m = outward (no_extern_prelude v) (no_macro_kind q) (Super 0) ns m

-- what another crate answers to a rest that begins with the path's i-th name
abbrev pub from_abroad : ℕ → Answer → Answer
from_abroad i a = record {
  resolved_def = a.resolved_def;
  segment_index = option_map (λ k. k + i) a.segment_index;
  reached_fixedpoint = Yes;
  prefix_info = record { differing_crate = true; enum_variant = a.prefix_info.enum_variant };
}

-- where a walk stands: at its beginning, whatever entries it has there, and after each name that leads on
pub data Stands (s : Sight) : Reached → Type 0 where
  begins : {m : ModuleId} {p : PerNs} → Stands s (begun s.tree m p)
  leads_on : {r next : Reached} → Stands s r → (i : ℕ) (n : Name) → step_of s r i n ≡ On next → Stands s next

pub record AskedElsewhere (v : View) (q : Question) (ns : List Name) : Type 0 where
  -- wherever a walk comes to a module of another crate, the rest is asked there
  pub abroad : (r : Reached) (it : Types) (m : ModuleId) (i : ℕ) (n : Name) (rest : List Name)
      → r.entries.types ≡ Some it → it.def ≡ def.ModuleId m → r.passed.enum_variant ≡ false → foreign v.fixed.tree r m ≡ true
      → walk_of (sight v q.original_module) r i (n ∷ rest) ≡ from_abroad i (asked_abroad v q (n ∷ rest) m)
  -- and wherever one stands at a module, it has passed no enum's variant
  pub plain : (r : Reached) (it : Types) (m : ModuleId)
      → Stands (sight v q.original_module) r → r.entries.types ≡ Some it → it.def ≡ def.ModuleId m → r.passed.enum_variant ≡ false
  -- where `super` leads from m into another map, the path is asked there as a `self` path
  pub outside : (level : ℕ) (m found : ModuleId)
      → super_of v.fixed.tree level m ≡ Some found → same_map.it (map_of v.fixed.tree found) (map_of v.fixed.tree m) ≡ false
      → (single_of v q (Super level) ns m).answer ≡ outward v q (Super 0) ns found
