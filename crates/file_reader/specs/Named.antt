-- The modules, crates and visibilities that statements name, among the modules that are declared above.
use Rattle.std.specs.Prelude.{◌≡◌, ℕ, ◌⊎◌, ◌<◌, ◌^◌, List, ◌++◌, codes, decimal, Option, Some, None}
use Rattle.std.specs.BTreeMap.{get_by}
use Rattle.std.specs.Cmp.Lexicographic.{slice_cmp}
use Rattle.std.specs.Option.{option_and_then, option_map}
use Rattle.std.specs.Ordering.{nat_cmp}
use Rattle.entries.specs.declared.visibility.Visibility.{Visibility}
use Rattle.entries.specs.declared.visibility.Visibility.TheVariants as vis
use Rattle.entries.specs.declared.visibility.VisibilityExplicitness.TheVariants.{Explicit, Implicit}
use Rattle.file_reader.specs.declared.reader.Known.{Known}
use Rattle.file_reader.specs.Told.{Modules}
use Rattle.hir_def.specs.declared.CrateId.{CrateId}
use Rattle.hir_def.specs.declared.ModuleId.{ModuleId}
use Rattle.item_scope.specs.declared.index_data.DefMapId.{DefMapId}
use Rattle.item_scope.specs.declared.index_data.DefMapId.TheVariants as map_id
use Rattle.statements.specs.declared.clauses.RawVisibility.{RawVisibility}
use Rattle.statements.specs.declared.clauses.RawVisibility.TheVariants as raw

-- the module that is declared above with that full name
abbrev pub known_of : Modules → List ℕ → Option Known
known_of above w = get_by (λ k. slice_cmp nat_cmp w k.now) above

-- its number
abbrev pub module_of : Modules → List ℕ → Option ModuleId
module_of above w = option_map (λ k. k.id) (known_of above w)

-- the map that it is the root of
abbrev pub map_of : Modules → List ℕ → Option DefMapId
map_of above w = option_and_then (λ k. k.root_of) (known_of above w)

abbrev pub as_crate : Option DefMapId → Option CrateId
as_crate (Some (map_id.Crate c)) = Some c
as_crate m = None

-- the crate that is declared above with that name, and its root
abbrev pub crate_of : Modules → List ℕ → Option (CrateId × ModuleId)
crate_of above w = option_and_then (λ k. option_map (λ c. (c, k.id)) (as_crate k.root_of)) (known_of above w)

-- a module by `#` and its number of 32 bits, or by a full name that is declared above
abbrev pub Names : Modules → List ℕ → ModuleId → Type 0
Names above w m = ((m.0 < 2 ^ 32) × (w ≡ codes "#" ++ decimal m.0)) ⊎ (module_of above w ≡ Some m)

-- inside a module of which P holds, which is named
abbrev IsInside : (ModuleId → Type 0) → Visibility → Type 0
IsInside P (vis.Module m Explicit) = P m
IsInside P (vis.Module m Implicit) = ⊥
IsInside P vis.Public = ⊥
IsInside P (vis.PubCrate c) = ⊥

-- what is told in a module: `pub` is seen by all, `pub(crate)` in the module's crate, `private` in the module, and else in the one that is named
abbrev pub Tells : Modules → Known → RawVisibility → Visibility → Type 0
Tells above at raw.Public v = v ≡ vis.Public
Tells above at raw.Crate v = v ≡ vis.PubCrate at.krate
Tells above at raw.Private v = v ≡ vis.Module at.id Implicit
Tells above at (raw.In w) v = IsInside (Names above w.text.now) v
