-- What stands above the equations of entries: the left one wins, and exactly what is seen is kept.
use Rattle.std.specs.Prelude.{◌≡◌, ◌↔◌, Some, None, Option}
use Rattle.hir_def.specs.declared.ModuleId.{ModuleId}
use Rattle.entries.specs.declared.per_ns.Item.{Item}
use Rattle.entries.specs.declared.per_ns.PerNs.{PerNs}
use Rattle.nameres.specs.Shapes.{Shape}
use Rattle.entries.specs.Visibilities.{Sees}

-- r is what p has, and what q has where p has nothing
pub record LeftWins {A : Type 0} (p q r : Option A) : Type 0 where
  pub left : (x : A) → p ≡ Some x → r ≡ Some x
  pub right : p ≡ None → r ≡ q

pub record LeftWinsEach (p q r : PerNs) : Type 0 where
  pub types : LeftWins p.types q.types r.types
  pub values : LeftWins p.values q.values r.values
  pub macros : LeftWins p.macros q.macros r.macros

-- r has an entry exactly where p has it and from sees it
abbrev pub KeepsSeen : {D M : Type 0} → Shape → ModuleId → Option (Item D M) → Option (Item D M) → Type 0
KeepsSeen {D} {M} t from p r = (it : Item D M) → (r ≡ Some it) ↔ ((p ≡ Some it) × Sees t from it.vis)

pub record KeepsSeenEach (t : Shape) (from : ModuleId) (p r : PerNs) : Type 0 where
  pub types : KeepsSeen t from p.types r.types
  pub values : KeepsSeen t from p.values r.values
  pub macros : KeepsSeen t from p.macros r.macros
