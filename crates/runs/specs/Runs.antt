-- Runs: calls that were made one after the other, and what an index tells after them.
use Rattle.std.specs.Prelude.{◌≡◌, ℕ, Bool, ◌&&◌, if◌then◌else◌, List, [], ◌∷◌, Some, None, Ok, Err, Option, Result, ◌==◌}
use Rattle.std.specs.List.{fold, flat_map}
use Rattle.hir_def.specs.declared.ModuleId.{ModuleId}
use Rattle.hir_def.specs.declared.Name.{Name}
use Rattle.hir_def.specs.declared.fault.IndexFault.{IndexFault}
use Rattle.entries.specs.declared.per_ns.Item.{Item}
use Rattle.item_scope.specs.declared.delivery.Delivery.{Delivery}
use Rattle.item_scope.specs.Deliveries.{brought, delivered, Takes}
use Rattle.item_scope.specs.InTurn.{InTurn}
use Rattle.item_scope.specs.Views.{View}
use Rattle.path_resolution.specs.Questions.{answered}
use Rattle.runs.specs.declared.calls.Call.{Call}
use Rattle.runs.specs.declared.calls.Call.TheVariants.{Deliver, Ask}
use Rattle.runs.specs.Spaces.{Space}

-- an index at a moment: what it tells, and how many rows are free
pub record State : Type 0 where
  pub view : View
  pub left : ℕ

abbrev pub state : View → ℕ → State
state v left = record { view = v; left = left }

-- a call that was made, between the states before and after it: a delivery by its contract, a question by its own
abbrev pub Did : State → Call → State → Type 0
Did s (Deliver d (Some r)) t = Takes s.view s.left d r t.view t.left
Did s (Ask q path (Some r)) t = (r ≡ answered s.view q path.now.kind path.now.names.items) × (t ≡ s)
Did s (Deliver d None) t = ⊥
Did s (Ask q path None) t = ⊥

-- the calls were made in their order, the refused ones too
abbrev pub Ran : State → List Call → State → Type 0
Ran = InTurn Did

-- a call that was made, between an index before and after it, of which Delivers is its own rule of a delivery
abbrev pub Does : {I : Type 0} → (I → Delivery → Result Bool IndexFault → I → Type 0) → I → Call → I → Type 0
Does Delivers x (Deliver d (Some r)) y = Delivers x d r y
Does Delivers x (Ask q path (Some r)) y = y ≡ x
Does Delivers x (Deliver d None) y = ⊥
Does Delivers x (Ask q path None) y = ⊥

-- the calls made the one of the other, in their order, and nothing else did
abbrev pub Made : {I : Type 0} → (I → Delivery → Result Bool IndexFault → I → Type 0) → I → List Call → I → Type 0
Made Delivers = InTurn (Does Delivers)

-- a call without what came of it
abbrev pub unmade : Call → Call
unmade (Deliver d r) = Deliver d None
unmade (Ask q path r) = Ask q path None

-- what is told after a call: a delivery that was taken changes its places, and no other call changes anything
abbrev pub told : View → Call → View
told v (Deliver d (Some (Ok changed))) = delivered v d
told v (Deliver d (Some (Err f))) = v
told v (Deliver d None) = v
told v (Ask q path r) = v

abbrev pub told_after : View → List Call → View
told_after = fold told

abbrev pub listed : {T : Type 0} → Option T → List T
listed None = []
listed (Some e) = e ∷ []

-- the entry that a delivery brings a place, under the delivery's import
abbrev pub brings : {D M : Type 0} → Space D M → ModuleId → Name → Delivery → List (Item D M)
brings sp m n d = if m.0 == d.receiver.0 && n.0 == d.name.0 then listed (sp.part (brought d)) else []

-- what a place takes of a call: the entry of a delivery that was taken, though the place's holder may stay
abbrev pub takes : {D M : Type 0} → Space D M → ModuleId → Name → Call → List (Item D M)
takes sp m n (Deliver d (Some (Ok changed))) = brings sp m n d
takes sp m n (Deliver d (Some (Err f))) = []
takes sp m n (Deliver d None) = []
takes sp m n (Ask q path r) = []

-- what it takes of a run, in the order in which it came
abbrev pub taken : {D M : Type 0} → Space D M → ModuleId → Name → List Call → List (Item D M)
taken sp m n = flat_map (takes sp m n)
