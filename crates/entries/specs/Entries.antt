-- Entries per namespace.
use Rattle.std.specs.Prelude.{◌≡◌, Bool, false, if◌then◌else◌, not, ◌&&◌, is_some, Some, None, Option}
use Rattle.std.specs.Option.{option_or}
use Rattle.hir_def.specs.declared.MacroId.{MacroId}
use Rattle.hir_def.specs.declared.ModuleDefId.{ModuleDefId}
use Rattle.hir_def.specs.declared.ModuleDefId.TheVariants as def
use Rattle.hir_def.specs.declared.ModuleId.{ModuleId}
use Rattle.hir_def.specs.declared.import.ImportOrExternCrate.{ImportOrExternCrate}
use Rattle.hir_def.specs.declared.import.ImportOrGlob.{ImportOrGlob}
use Rattle.entries.specs.declared.per_ns.Item.{Item}
use Rattle.entries.specs.declared.per_ns.PerNs.{PerNs}
use Rattle.entries.specs.declared.visibility.Visibility.{Visibility}
use Rattle.hir_def.specs.Imports.{narrowed, widened}
use Rattle.nameres.specs.Shapes.{Shape}
use Rattle.entries.specs.Visibilities.{visible}

abbrev pub entry : {D M : Type 0} → D → Visibility → Option M → Option (Item D M)
entry d v i = Some (record { def = d; vis = v; import = i })

-- an entry of the values with its def and import as those of any namespace
abbrev pub value_entry : Item ModuleDefId ImportOrGlob → Item ModuleDefId ImportOrExternCrate
value_entry it = record { def = it.def; vis = it.vis; import = widened it.import }

-- an entry of the macros with its def as that of any namespace
abbrev pub macro_entry : Item MacroId ImportOrExternCrate → Item ModuleDefId ImportOrExternCrate
macro_entry it = record { def = def.MacroId it.def; vis = it.vis; import = it.import }

-- both are there and equal, by a test of equality
abbrev pub both_equal : {M : Type 0} → (M → M → Bool) → Option M → Option M → Bool
both_equal eq None o = false
both_equal eq (Some a) None = false
both_equal eq (Some a) (Some b) = eq a b

-- both are there and the same
abbrev pub Both : {M : Type 0} → Option M → Option M → Type 0
Both None o = ⊥
Both (Some a) o = o ≡ Some a

-- the same present import, for another def
abbrev pub reresolved_by : {D M : Type 0} → (D → D → Bool) → (M → M → Bool) → Item D M → D → Option M → Bool
reresolved_by same_def same_import it d i = both_equal same_import it.import i && not (same_def it.def d)

abbrev pub nothing : PerNs
nothing = record { types = None; values = None; macros = None }

abbrev pub of_types : ModuleDefId → Visibility → Option ImportOrExternCrate → PerNs
of_types d v i = record { types = entry d v i; values = None; macros = None }

abbrev pub of_values : ModuleDefId → Visibility → Option ImportOrGlob → PerNs
of_values d v i = record { types = None; values = entry d v i; macros = None }

abbrev pub of_both : ModuleDefId → ModuleDefId → Visibility → Option ImportOrExternCrate → PerNs
of_both d e v i = record { types = entry d v i; values = entry e v (narrowed i); macros = None }

abbrev pub of_macros : MacroId → Visibility → Option ImportOrExternCrate → PerNs
of_macros d v i = record { types = None; values = None; macros = entry d v i }

abbrev pub is_nothing : PerNs → Bool
is_nothing p = not (is_some p.types) && (not (is_some p.values) && not (is_some p.macros))

-- the left entry of each namespace, else the right one
abbrev pub or_else : PerNs → PerNs → PerNs
or_else p q = record { types = option_or p.types q.types; values = option_or p.values q.values; macros = option_or p.macros q.macros }

-- an entry, where it is visible
abbrev pub kept : {D M : Type 0} → Shape → ModuleId → Option (Item D M) → Option (Item D M)
kept t from None = None
kept t from (Some it) = if visible t from it.vis then Some it else None

abbrev pub kept_all : Shape → ModuleId → PerNs → PerNs
kept_all t from p = record { types = kept t from p.types; values = kept t from p.values; macros = kept t from p.macros }
