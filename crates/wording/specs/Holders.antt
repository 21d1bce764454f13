-- What holds a place, by the statements of a file.
use Rattle.std.specs.Prelude.{not, Bool, Option}
use Rattle.std.specs.Option.{option_map}
use Rattle.hir_def.specs.declared.ModuleId.{ModuleId}
use Rattle.hir_def.specs.declared.Name.{Name}
use Rattle.hir_def.specs.declared.Namespace.{Namespace}
use Rattle.hir_def.specs.declared.Namespace.TheVariants as namespace
use Rattle.entries.specs.declared.per_ns.PerNs.{PerNs}
use Rattle.entries.specs.Entries.{value_entry, macro_entry}
use Rattle.item_scope.specs.Globs.{wide_glob, by_glob}
use Rattle.item_scope.specs.Places.{holder, is_by_name}
use Rattle.item_scope.specs.Views.{View, Types}
use Rattle.firmware.specs.declared.definitions.Definitions.{Definitions}
use Rattle.firmware.specs.Definitions.{definition_of, line_of}
use Rattle.wording.specs.declared.holders.Holder.{Holder}

abbrev pub holder_of : Definitions → Types → Bool → Holder
holder_of f it by_name = record {
  told = record { def = it.def; definition = definition_of f it.def };
  vis = it.vis;
  by_name = by_name;
  line = line_of f it.def it.import;
}

abbrev pub held : Definitions → Option Types → Bool → Option Holder
held f entry by_name = option_map (λ it. holder_of f it by_name) entry

-- what holds the name's place in a namespace, and whether it came by name
abbrev pub holder_at : Definitions → View → ModuleId → Name → Namespace → Option Holder
holder_at f v m n namespace.Types = held f (holder (v.types m n)) (is_by_name (v.types m n))
holder_at f v m n namespace.Values = held f (option_map value_entry (holder (v.values m n))) (is_by_name (v.values m n))
holder_at f v m n namespace.Macros = held f (option_map macro_entry (holder (v.macros m n))) (is_by_name (v.macros m n))

abbrev entry_holder : Definitions → Types → Holder
entry_holder f it = holder_of f it (not (by_glob wide_glob it.import))

-- the entry of a namespace, told as one of the types is
abbrev pub entry_in : PerNs → Namespace → Option Types
entry_in e namespace.Types = e.types
entry_in e namespace.Values = option_map value_entry e.values
entry_in e namespace.Macros = option_map macro_entry e.macros

-- the same, told as what holds a place is
abbrev pub entry_at : Definitions → PerNs → Namespace → Option Holder
entry_at f e s = option_map (entry_holder f) (entry_in e s)
