-- What an index tells, and the rule that every number in it exists.
use Rattle.std.specs.Prelude.{◌≡◌, ℕ, ◌<◌, Bool, true, false, not, ◌&&◌}
use Rattle.hir_def.specs.declared.MacroId.{MacroId}
use Rattle.hir_def.specs.declared.ModuleId.{ModuleId}
use Rattle.hir_def.specs.declared.ModuleDefId.{ModuleDefId}
use Rattle.hir_def.specs.declared.Name.{Name}
use Rattle.hir_def.specs.declared.import.ImportOrExternCrate.{ImportOrExternCrate}
use Rattle.hir_def.specs.declared.import.ImportOrGlob.{ImportOrGlob}
use Rattle.entries.specs.declared.per_ns.Item.{Item}
use Rattle.entries.specs.declared.per_ns.PerNs.{PerNs}
use Rattle.item_scope.specs.declared.place.Place.{Place}
use Rattle.item_scope.specs.declared.place.Place.TheVariants.{Empty, ByGlob, ByName}
use Rattle.item_scope.specs.Globs.{wide_glob, narrow_glob, by_glob}
use Rattle.item_scope.specs.IndexData.{IndexData, SoundData, def_in, macro_in, item_in}
use Rattle.item_scope.specs.Places.{holder, is_empty}

abbrev pub Types : Type 0
Types = Item ModuleDefId ImportOrExternCrate

abbrev pub Values : Type 0
Values = Item ModuleDefId ImportOrGlob

abbrev pub Macros : Type 0
Macros = Item MacroId ImportOrExternCrate

-- the places of one namespace
abbrev pub Places : Type 0 → Type 0
Places T = ModuleId → Name → Place T

-- all that an index tells, save how many rows are free: what deliveries leave alone, and the places
pub record View : Type 0 where
  pub fixed : IndexData
  pub types : Places Types
  pub values : Places Values
  pub macros : Places Macros

-- the entries that hold a name's places
abbrev pub entries_at : View → ModuleId → Name → PerNs
entries_at v m n = record { types = holder (v.types m n); values = holder (v.values m n); macros = holder (v.macros m n) }

-- what holds a place exists, and it is held by a glob exactly when its import is one
abbrev pub place_in : {T : Type 0} → (T → Bool) → (T → Bool) → Place T → Bool
place_in exists glob Empty = true
place_in exists glob (ByGlob e) = exists e && glob e
place_in exists glob (ByName e) = exists e && not (glob e)

-- the places of a namespace, by how many modules and names there are: only places of those are held
pub record PlacesIn {T : Type 0} (modules names : ℕ) (exists glob : T → Bool) (places : Places T) : Type 0 where
  pub known : (m : ModuleId) (n : Name) → is_empty (places m n) ≡ false → (m.0 < modules) × (n.0 < names)
  pub holders : (m : ModuleId) (n : Name) → place_in exists glob (places m n) ≡ true

-- those that hold entries of an index
abbrev pub SoundPlaces : {D M : Type 0} → (IndexData → D → Bool) → (M → Bool) → IndexData → Places (Item D M) → Type 0
SoundPlaces def_in glob f = PlacesIn f.tree.modules f.names (item_in def_in f) (λ e. by_glob glob e.import)

-- every number that is told exists
pub record Sound (v : View) : Type 0 where
  pub fixed : SoundData v.fixed
  pub types : SoundPlaces def_in wide_glob v.fixed v.types
  pub values : SoundPlaces def_in narrow_glob v.fixed v.values
  pub macros : SoundPlaces macro_in wide_glob v.fixed v.macros
