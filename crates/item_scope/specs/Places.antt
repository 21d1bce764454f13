-- Places, and the four steps by which an entry comes to one.
use Rattle.std.specs.Prelude.{Bool, true, false, if◌then◌else◌, not, ◌&&◌, List, Some, None, Option}
use Rattle.std.specs.List.{fold}
use Rattle.entries.specs.declared.per_ns.Item.{Item}
use Rattle.entries.specs.Entries.{reresolved_by}
use Rattle.item_scope.specs.Globs.{by_glob}
use Rattle.item_scope.specs.declared.place.Place.{Place}
use Rattle.item_scope.specs.declared.place.Place.TheVariants.{Empty, ByGlob, ByName}
use Rattle.item_scope.specs.declared.steps.Stepped.{Stepped}

abbrev pub holder : {T : Type 0} → Place T → Option T
holder Empty = None
holder (ByGlob e) = Some e
holder (ByName e) = Some e

abbrev pub is_empty : {T : Type 0} → Place T → Bool
is_empty Empty = true
is_empty (ByGlob e) = false
is_empty (ByName e) = false

abbrev pub is_by_glob : {T : Type 0} → Place T → Bool
is_by_glob Empty = false
is_by_glob (ByGlob e) = true
is_by_glob (ByName e) = false

abbrev pub is_by_name : {T : Type 0} → Place T → Bool
is_by_name Empty = false
is_by_name (ByGlob e) = false
is_by_name (ByName e) = true

-- what the steps ask of entries: whether a glob brought one, and whether one is what the import of another brings now
pub record Tests (T : Type 0) : Type 0 where
  pub glob : T → Bool
  pub reresolved : T → T → Bool

-- by a test of defs, a test for globs and a test of imports
abbrev pub tests : {D M : Type 0} → (D → D → Bool) → (M → Bool) → (M → M → Bool) → Tests (Item D M)
tests same_def glob same_import = record {
  glob = λ e. by_glob glob e.import;
  reresolved = λ old new. reresolved_by same_def same_import old new.def new.import;
}

-- whether the entry is stored there
abbrev pub takes : {T : Type 0} → Tests T → Place T → T → Bool
takes t Empty new = true
takes t (ByGlob old) new = not (t.glob new)
takes t (ByName old) new = not (t.glob new) && t.reresolved old new

abbrev pub held : {T : Type 0} → Tests T → T → Place T
held t new = if t.glob new then ByGlob new else ByName new

abbrev pub stepped : {T : Type 0} → Tests T → Place T → T → Stepped T
stepped t p new = record { place = if takes t p new then held t new else p; changed = takes t p new }

-- the place after entries came one by one
abbrev pub replayed : {T : Type 0} → Tests T → Place T → List T → Place T
replayed t = fold (λ p new. (stepped t p new).place)
