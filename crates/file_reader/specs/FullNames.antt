-- What full names mean: the modules that are declared above, and what the parts of the file declare with a kind.
use Rattle.std.specs.Prelude.{ℕ, ◌+◌, if◌then◌else◌, List, drop, fold, length, map, take, unwrap_or, Option, Some, None}
use Rattle.std.specs.Borrow.{Bor}
use Rattle.std.specs.BTreeMap.{Updates, get_by}
use Rattle.std.specs.Cmp.Lexicographic.{slice_cmp}
use Rattle.std.specs.Option.{option_and_then, option_map, option_map_or}
use Rattle.std.specs.Ordering.{nat_cmp, ordering_then}
use Rattle.std.specs.declared.cmp.Ordering.{Ordering}
use Rattle.entries.specs.Entries.{is_nothing, nothing, of_types, or_else}
use Rattle.entries.specs.declared.per_ns.PerNs.{PerNs}
use Rattle.entries.specs.declared.visibility.Visibility.TheVariants.{Public}
use Rattle.file_reader.specs.Models.{part_of, parts_seen}
use Rattle.file_reader.specs.Named.{crate_of, known_of}
use Rattle.file_reader.specs.declared.reader.Known.{Known}
use Rattle.file_reader.specs.Told.{Declarations, Key, Modules, Told}
use Rattle.firmware.specs.contracts.pile.PartOrd.TheImpl.{cmp-value as part_cmp}
use Rattle.firmware.specs.declared.models.Model.{Model}
use Rattle.firmware.specs.declared.pile.Part.{Part}
use Rattle.hir_def.specs.declared.AdtId.TheVariants as adt
use Rattle.hir_def.specs.declared.EnumId.{EnumId}
use Rattle.hir_def.specs.declared.MacroId.{MacroId}
use Rattle.hir_def.specs.declared.ModuleDefId.{ModuleDefId}
use Rattle.hir_def.specs.declared.ModuleDefId.TheVariants as def
use Rattle.statements.specs.Names.{colons, last_colons}
use Rattle.statements.specs.declared.kinds.Bringing.{Bringing}
use Rattle.statements.specs.declared.kinds.Bringing.TheVariants as bringing

-- By the part, then by what stands before the last `::`, and then by the name.
abbrev pub compared : Part → List ℕ → List ℕ → Key → Ordering
compared p within name k = ordering_then (ordering_then (part_cmp.it p k.0) (slice_cmp nat_cmp within k.1.now)) (slice_cmp nat_cmp name k.2.now)

-- what a part declares with a full name: nothing, where it has none such
unfoldable pub declared_in : Declarations → Part → List ℕ → List ℕ → PerNs
declared_in d p within name = unwrap_or (get_by (compared p within name) d) nothing

-- At a full name in a part the entries come in: each namespace has there what it had, and else what comes. Nothing else changes.
unfoldable pub Gains : Declarations → Part → Bor (List ℕ) → Bor (List ℕ) → PerNs → Declarations → Type 0
Gains old p within name e new =
    Updates (λ x y. compared x.0 x.1.now x.2.now y) old new (p, within, name) (Some (or_else (declared_in old p within.now name.now) e))

-- the part in which the next statement stands declares the entries with that full name
abbrev pub DeclaresAs : Told → Bor (List ℕ) → Bor (List ℕ) → PerNs → Told → Type 0
DeclaresAs old within name e new = Gains old.declared (part_of old.models) within name e new.declared

-- In each namespace, the first of the parts that declares something with a full name has it.
unfoldable pub declared_in_all : Declarations → List Part → List ℕ → List ℕ → PerNs
declared_in_all d parts within name = fold or_else nothing (map (λ p. declared_in d p within name) parts)

-- what full names are looked up in: the modules, what else is declared with a kind, and the models
pub record Above : Type 0 where
  pub modules : Modules
  pub declared : Declarations
  pub models : List Model

-- what is declared above, as far as a file is read
abbrev pub declared_above : Told → Above
declared_above t = record { modules = t.above; declared = t.declared; models = t.models }

-- what is declared with a full name and a kind in the parts that the next statement sees
abbrev pub entries_above : Above → List ℕ → List ℕ → PerNs
entries_above a within name = declared_in_all a.declared (parts_seen a.models) within name

-- a module of a full name with no `::`, which is a crate's root
abbrev pub of_module : Known → PerNs
of_module k = of_types (def.ModuleId k.id) Public None

-- the entries, where there are any
abbrev pub unless_nothing : PerNs → Option PerNs
unless_nothing e = if is_nothing e then None else Some e

-- What a full name means, if anything. With no `::` it is the root of a crate that is declared above, and else what is declared above with it and a kind.
unfoldable pub meaning : Above → List ℕ → Option PerNs
meaning a full =
    option_map_or (λ k. unless_nothing (entries_above a (take k full) (drop (k + length colons) full))) (last_colons full)
    (option_map of_module (known_of a.modules full))

-- the macro of that full name
abbrev pub macro_meant : Above → List ℕ → Option MacroId
macro_meant a full = option_and_then (λ e. option_map (λ it. it.def) e.macros) (meaning a full)

abbrev pub as_enum : ModuleDefId → Option EnumId
as_enum (def.AdtId (adt.EnumId e)) = Some e
as_enum d = None

-- the enum among the entries of a name
abbrev pub enum_in : PerNs → Option EnumId
enum_in e = option_and_then (λ it. as_enum it.def) e.types

-- the enum of that full name
abbrev pub enum_meant : Above → List ℕ → Option EnumId
enum_meant a full = option_and_then enum_in (meaning a full)

-- what an import of that kind brings: of an extern crate the root of the crate, else what the full name means
abbrev pub imported : Above → Bringing → List ℕ → Option PerNs
imported a bringing.ExternCrate full = option_map (λ c. of_types (def.ModuleId c.1) Public None) (crate_of a.modules full)
imported a b full = meaning a full
