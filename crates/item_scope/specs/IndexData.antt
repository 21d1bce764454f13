-- What an index tells beside its places: the counts and the tables, which no delivery changes.
use Rattle.std.specs.Prelude.{◌≡◌, ℕ, ◌<◌, ◌≤◌, Bool, true, false, ◌&&◌, Some, Option, nat_lt}
use Rattle.hir_def.specs.declared.AdtId.TheVariants as adt
use Rattle.hir_def.specs.declared.CrateId.{CrateId}
use Rattle.hir_def.specs.declared.EnumId.{EnumId}
use Rattle.hir_def.specs.declared.MacroId.{MacroId}
use Rattle.hir_def.specs.declared.ModuleId.{ModuleId}
use Rattle.hir_def.specs.declared.ModuleDefId.{ModuleDefId}
use Rattle.hir_def.specs.declared.ModuleDefId.TheVariants as def
use Rattle.hir_def.specs.declared.Name.{Name}
use Rattle.nameres.specs.Shapes.{Shape, ModuleIn, CrateIn}
use Rattle.entries.specs.declared.per_ns.Item.{Item}
use Rattle.entries.specs.Visibilities.{named}
use Rattle.item_scope.specs.declared.index_data.DefMapId.{DefMapId}
use Rattle.item_scope.specs.declared.index_data.DefMapId.TheVariants as map
use Rattle.item_scope.specs.declared.index_data.ExternPrelude.{ExternPrelude}
use Rattle.item_scope.specs.declared.index_data.MacroUse.{MacroUse}
use Rattle.item_scope.specs.declared.index_data.EnumVariant.{EnumVariant}
use Rattle.item_scope.specs.declared.index_data.CallStyles.{CallStyles}

pub record IndexData : Type 0 where
  pub tree : Shape
  pub names : ℕ
  pub enums : ℕ
  pub macro_count : ℕ
  pub extern_prelude : CrateId → Name → Option ExternPrelude
  pub macro_use : DefMapId → Name → Option MacroUse
  pub prelude : DefMapId → Option ModuleId
  pub legacy : ModuleId → Name → Option MacroId
  pub variant : EnumId → Name → Option EnumVariant
  pub styles : MacroId → CallStyles

abbrev pub macro_in : IndexData → MacroId → Bool
macro_in f m = nat_lt m.0 f.macro_count

-- a module, an enum or a macro that a def is exists; functions and the like are not counted
abbrev pub def_in : IndexData → ModuleDefId → Bool
def_in f (def.ModuleId m) = nat_lt m.0 f.tree.modules
def_in f (def.FunctionId x) = true
def_in f (def.AdtId (adt.StructId s)) = true
def_in f (def.AdtId (adt.UnionId u)) = true
def_in f (def.AdtId (adt.EnumId e)) = nat_lt e.0 f.enums
def_in f (def.EnumVariantId x) = true
def_in f (def.ConstId c) = true
def_in f (def.StaticId s) = true
def_in f (def.TraitId t) = true
def_in f (def.TypeAliasId t) = true
def_in f (def.BuiltinType b) = true
def_in f (def.MacroId m) = macro_in f m

-- an entry's def exists, by a test of defs, and so does what its visibility names
abbrev pub item_in : {D M : Type 0} → (IndexData → D → Bool) → IndexData → Item D M → Bool
item_in def_in f it = def_in f it.def && named f.tree it.vis

abbrev pub map_in : IndexData → DefMapId → Bool
map_in f (map.Block b) = nat_lt b.0 f.tree.blocks
map_in f (map.Crate c) = nat_lt c.0 f.tree.crates

abbrev pub NameIn : IndexData → Name → Type 0
NameIn f n = n.0 < f.names

abbrev pub MacroIn : IndexData → MacroId → Type 0
MacroIn f m = m.0 < f.macro_count

-- a macro that does not exist has no call style
abbrev pub no_styles : CallStyles
no_styles = record { fn_like = false; attr = false; derive = false }

-- what the tables tell of a key names only what exists, and so does the key
abbrev pub TellsPrelude : IndexData → CrateId → Name → ExternPrelude → Type 0
TellsPrelude f c n e = CrateIn f.tree c × NameIn f n × ModuleIn f.tree e.«module»

abbrev pub TellsMacroUse : IndexData → DefMapId → Name → MacroUse → Type 0
TellsMacroUse f m n u = (map_in f m ≡ true) × NameIn f n × MacroIn f u.def

-- names are few, and every module, block, crate, name, enum and macro number that the tables tell exists; variants, imports
-- and extern crates are not counted
pub record SoundData (f : IndexData) : Type 0 where
  pub few_names : f.names ≤ 65536
  pub extern_prelude : (c : CrateId) (n : Name) (e : ExternPrelude) → f.extern_prelude c n ≡ Some e → TellsPrelude f c n e
  pub macro_use : (m : DefMapId) (n : Name) (u : MacroUse) → f.macro_use m n ≡ Some u → TellsMacroUse f m n u
  pub prelude : (m : DefMapId) (p : ModuleId) → f.prelude m ≡ Some p → (map_in f m ≡ true) × ModuleIn f.tree p
  pub legacy : (m : ModuleId) (n : Name) (d : MacroId) → f.legacy m n ≡ Some d → ModuleIn f.tree m × NameIn f n × MacroIn f d
  pub variant : (e : EnumId) (n : Name) (x : EnumVariant) → f.variant e n ≡ Some x → (e.0 < f.enums) × NameIn f n
  pub styles : (m : MacroId) → f.macro_count ≤ m.0 → f.styles m ≡ no_styles
