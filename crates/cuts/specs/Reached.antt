-- Which items answers reach.
use Rattle.std.specs.Prelude.{◌≡◌, ◌≢◌, ℕ, if◌then◌else◌, List, [], ◌∷◌, Option, Some, None, Ok, Err, Result}
use Rattle.std.specs.List.{slice_get}
use Rattle.std.specs.Option.{option_map, option_or}
use Rattle.std.specs.HashMap.{get}
use Rattle.hir_def.specs.declared.ModuleDefId.{ModuleDefId}
use Rattle.hir_def.specs.declared.ModuleDefId.TheVariants as def
use Rattle.hir_def.specs.declared.Namespace.{Namespace}
use Rattle.hir_def.specs.declared.Namespace.TheVariants as namespace
use Rattle.hir_def.specs.declared.fault.PathFault.{PathFault}
use Rattle.hir_def.specs.contracts.ModuleDefIdPartialEq.TheImpl.{eq-value as same_def}
use Rattle.entries.specs.declared.per_ns.PerNs.{PerNs}
use Rattle.path_resolution.specs.declared.answer.ResolvePathResult.{ResolvePathResult}
use Rattle.firmware.specs.declared.definitions.Definitions.{Definitions}
use Rattle.firmware.specs.Definitions.{item_of}
use Rattle.cuts.specs.declared.asked.Answered.{Answered}
use Rattle.cuts.specs.declared.reached.Reached.{Reached}
use Rattle.cuts.specs.declared.reached.Reason.{Reason}

-- the reason of an item, if it has one
abbrev pub said : Reached → ModuleDefId → Option Reason
said r item = get same_def.it r.reasons item

-- what the entry of a namespace stands for
abbrev pub def_in : PerNs → Namespace → Option ModuleDefId
def_in e namespace.Types = option_map (λ it. it.def) e.types
def_in e namespace.Values = option_map (λ it. it.def) e.values
def_in e namespace.Macros = option_map (λ it. def.MacroId it.def) e.macros

-- the item that it stands for: of a variant its enum
abbrev pub item_in : Definitions → PerNs → Namespace → Option ModuleDefId
item_in f e s = option_map (item_of f) (def_in e s)

-- one item with its reason, and no other
abbrev pub noted : ModuleDefId → Reason → ModuleDefId → Option Reason
noted d r item = if same_def.it d item then Some r else None

abbrev pub noted_in : Option ModuleDefId → Reason → ModuleDefId → Option Reason
noted_in None r item = None
noted_in (Some d) r item = noted d r item

abbrev pub reason_at : Definitions → ℕ → PerNs → Namespace → ModuleDefId → Option Reason
reason_at f path e s = noted_in (item_in f e s) (record { path = path; entries = e; namespace = s })

-- the first namespace whose entry stands for the item
abbrev pub reason_of : Definitions → ℕ → PerNs → ModuleDefId → Option Reason
reason_of f path e item = option_or (option_or (reason_at f path e namespace.Types item) (reason_at f path e namespace.Values item)) (reason_at f path e namespace.Macros item)

abbrev pub reason_by : Definitions → ℕ → Result ResolvePathResult PathFault → ModuleDefId → Option Reason
reason_by f path (Ok a) item = reason_of f path a.resolved_def item
reason_by f path (Err x) item = None

abbrev pub reason_in : Definitions → Answered → ModuleDefId → Option Reason
reason_in f a item = reason_by f a.ask.number a.result item

-- the first answer that reaches the item
abbrev pub reason : Definitions → List Answered → ModuleDefId → Option Reason
reason f [] item = None
reason f (a ∷ answers) item = option_or (reason_in f a item) (reason f answers item)

-- an item's reason is the one that it had, or else the further one
abbrev pub Follows : Reached → (ModuleDefId → Option Reason) → Reached → Type 0
Follows had further has = (item : ModuleDefId) → said has item ≡ option_or (said had item) (further item)

-- no entry of an answer stands for the item
abbrev pub Nowhere : Definitions → List Answered → ModuleDefId → Type 0
Nowhere f answers item =
    (i : ℕ) (a : Answered) (r : ResolvePathResult) (s : Namespace) → slice_get answers i ≡ Some a → a.result ≡ Ok r → item_in f r.resolved_def s ≢ Some item
