-- The chain law: where the prefixes of a `crate` path lead, and what its answer then is.
use Rattle.std.specs.Prelude.{◌≡◌, ◌⊎◌, ◌↔◌, List, [], ◌∷◌, ◌++◌, Some, None, Option, Result, IfOk}
use Rattle.hir_def.specs.declared.CrateId.{CrateId}
use Rattle.hir_def.specs.declared.ModuleId.{ModuleId}
use Rattle.hir_def.specs.declared.ModuleDefId.{ModuleDefId}
use Rattle.hir_def.specs.declared.ModuleDefId.TheVariants as def
use Rattle.hir_def.specs.declared.Name.{Name}
use Rattle.hir_def.specs.declared.fault.PathFault.{PathFault}
use Rattle.nameres.specs.Shapes.{Shape}
use Rattle.path_text.specs.declared.mod_path.ModPath.{ModPath}
use Rattle.path_text.specs.declared.mod_path.PathKind.{PathKind}
use Rattle.path_text.specs.declared.mod_path.PathKind.TheVariants.{Crate}
use Rattle.entries.specs.declared.per_ns.Item.{Item}
use Rattle.entries.specs.Visibilities.{Sees}
use Rattle.item_scope.specs.declared.place.Place.{Place}
use Rattle.item_scope.specs.Places.{holder}
use Rattle.item_scope.specs.Views.{View, Types}
use Rattle.path_resolution.specs.declared.answer.ReachedFixedPoint.TheVariants.{No}
use Rattle.path_resolution.specs.declared.answer.ResolvePathResult.{ResolvePathResult as Answer}
use Rattle.path_resolution.specs.declared.question.Question.{Question}
use Rattle.path_resolution.specs.Answers.{no_flags}
use Rattle.runs.specs.Spaces.{Space, Each}

-- the entry holds the place, and is visible from the module
pub record InSight {D M : Type 0} (t : Shape) (from : ModuleId) (p : Place (Item D M)) (e : Item D M) : Type 0 where
  pub holds : holder p ≡ Some e
  pub visible : Sees t from e.vis

-- the place is empty, or its entry invisible
abbrev pub NoneInSight : {D M : Type 0} → Shape → ModuleId → Place (Item D M) → Type 0
NoneInSight {D} {M} t from p = (e : Item D M) → InSight t from p e → ⊥

-- from a start the names lead to the type that their steps reach, each of which is a place of types; or to nothing, where a step's
-- place is empty or its entry invisible
pub data Leads (v : View) (from : ModuleId) : ModuleDefId → List Name → Option ModuleDefId → Type 0 where
  here : {d : ModuleDefId} → Leads v from d [] (Some d)
  through : {m : ModuleId} {n : Name} {ns : List Name} {e : Types} {o : Option ModuleDefId}
      → InSight v.fixed.tree from (v.types m n) e → Leads v from e.def ns o → Leads v from (def.ModuleId m) (n ∷ ns) o
  nowhere : {m : ModuleId} {n : Name} {ns : List Name}
      → NoneInSight v.fixed.tree from (v.types m n) → Leads v from (def.ModuleId m) (n ∷ ns) None

-- each step of the names has an entry visible from the module, the last one's in the namespace, which is e
pub data Fills {D M : Type 0} (sp : Space D M) (v : View) (from : ModuleId) : ModuleDefId → List Name → Item D M → Type 0 where
  last : {m : ModuleId} {n : Name} {e : Item D M}
      → InSight v.fixed.tree from (sp.places v m n) e → Fills sp v from (def.ModuleId m) (n ∷ []) e
  after : {m : ModuleId} {n : Name} {ns : List Name} {s : Types} {e : Item D M}
      → InSight v.fixed.tree from (v.types m n) s → Fills sp v from s.def ns e → Fills sp v from (def.ModuleId m) (n ∷ ns) e

-- the one list begins the other and is shorter
abbrev pub ProperPrefix : List Name → List Name → Type 0
ProperPrefix ps ns = (n : Name) × (rest : List Name) × (ns ≡ ps ++ n ∷ rest)

-- the names lead to a module of the asking module's crate, or to nothing
abbrev pub StaysIn : View → ModuleId → ModuleDefId → List Name → Type 0
StaysIn v from start ps =
    ((m : ModuleId) × Leads v from start ps (Some (def.ModuleId m)) × (v.fixed.tree.crate_of m ≡ v.fixed.tree.crate_of from)) ⊎ Leads v from start ps None

-- no module of the crate is in a block
abbrev pub Blockless : Shape → CrateId → Type 0
Blockless t c = (m : ModuleId) → t.crate_of m ≡ c → t.block_of m ≡ None

-- where `crate` paths start
abbrev pub root_of : View → ModuleId → ModuleDefId
root_of v from = def.ModuleId (v.fixed.tree.crate_root (v.fixed.tree.crate_of from))

-- a `crate` path with names, in a crate without blocks, whose proper prefixes lead to modules there or to nothing
pub record IsChain (v : View) (from : ModuleId) (k : PathKind) (ns : List Name) : Type 0 where
  pub crate : k ≡ Crate
  pub names : ns ≡ [] → ⊥
  pub blockless : Blockless v.fixed.tree (v.fixed.tree.crate_of from)
  pub prefixes : (ps : List Name) → ProperPrefix ps ns → StaysIn v from (root_of v from) ps

-- the answer to names from a start
pub record ChainAnswer (v : View) (from : ModuleId) (start : ModuleDefId) (ns : List Name) (a : Answer) : Type 0 where
  -- a namespace is filled exactly when every step's entry is visible, and by the last entry
  pub filled : Each (λ D M sp. (e : Item D M) → (sp.part a.resolved_def ≡ Some e) ↔ Fills sp v from start ns e)
  -- No exactly when a proper prefix leads to nothing
  pub no : (a.reached_fixedpoint ≡ No) ↔ ((ps : List Name) × ProperPrefix ps ns × Leads v from start ps None)
  pub no_index : a.segment_index ≡ None
  pub no_flags : a.prefix_info ≡ no_flags

-- where a path that is asked in a module is a chain, the answer is that of a chain
abbrev pub ChainAt : View → ModuleId → PathKind → List Name → Answer → Type 0
ChainAt v from k ns a = IsChain v from k ns → ChainAnswer v from (root_of v from) ns a

-- so it is with what was asked, unless that was refused
abbrev pub ChainLaw : View → Question → ModPath → Result Answer PathFault → Type 0
ChainLaw v q path r = IfOk r (ChainAt v q.original_module path.kind path.names.items)
