-- Who may see an item: as relations in the words of the Reference, and as tests that compute.
use Rattle.std.specs.Prelude.{◌≡◌, ℕ, zero, suc, Bool, true, false, if◌then◌else◌, ◌||◌, List, [], ◌∷◌, Some, None, Ok, Err, Option, Result, ◌==◌, nat_lt}
use Rattle.hir_def.specs.declared.ModuleId.{ModuleId}
use Rattle.hir_def.specs.declared.BlockId.{BlockId}
use Rattle.hir_def.specs.declared.fault.TreeFault.{TreeFault}
use Rattle.hir_def.specs.declared.fault.TreeFault.TheVariants.{NoModule, Dangling}
use Rattle.entries.specs.declared.visibility.VisibilityExplicitness.{VisibilityExplicitness}
use Rattle.entries.specs.declared.visibility.Visibility.{Visibility}
use Rattle.entries.specs.declared.visibility.Visibility.TheVariants.{Module, PubCrate, Public}
use Rattle.nameres.specs.Shapes.{Shape, block_exit, around}

-- m is the target or inside it
pub data Inside (t : Shape) (target : ModuleId) : ModuleId → Type 0 where
  itself : Inside t target target
  within : {m p : ModuleId} → t.parent_of m ≡ Some p → Inside t target p → Inside t target m
  through : {m : ModuleId} {b : BlockId} → t.parent_of m ≡ None → t.block_of m ≡ Some b → Inside t target (t.outside_of b) → Inside t target m

-- m, where it is no block root; else what its block's outside module settles on
pub data Settles (t : Shape) : ModuleId → ModuleId → Type 0 where
  nested : {m p : ModuleId} → t.parent_of m ≡ Some p → Settles t m m
  blockless : {m : ModuleId} → t.parent_of m ≡ None → t.block_of m ≡ None → Settles t m m
  leaves : {m n : ModuleId} {b : BlockId} → t.parent_of m ≡ None → t.block_of m ≡ Some b → Settles t (t.outside_of b) n → Settles t m n

-- from may see what has that visibility
pub data Sees (t : Shape) (from : ModuleId) : Visibility → Type 0 where
  public : Sees t from Public
  in-crate : Sees t from (PubCrate (t.crate_of from))
  in-module : {m n : ModuleId} {mark : VisibilityExplicitness} → Settles t m n → Inside t n from → Sees t from (Module m mark)

-- who sees by a crate's or a module's visibility is of that crate
abbrev pub Apart : Shape → ModuleId → Visibility → Type 0
Apart t from Public = Unit {0}
Apart t from (PubCrate c) = t.crate_of from ≡ c
Apart t from (Module m mark) = t.crate_of from ≡ t.crate_of m

-- the modules that at most n steps pass on the way up
abbrev pub chain : (ModuleId → Option ModuleId) → Option ModuleId → ℕ → List ModuleId
chain up None n = []
chain up (Some m) zero = []
chain up (Some m) (suc n) = m ∷ chain up (up m) n

-- all of them: a rank below the number of modules falls with each step
unfoldable pub chain_of : Shape → (ModuleId → Option ModuleId) → ModuleId → List ModuleId
chain_of t up m = chain up (Some m) (suc t.modules)

abbrev pub has : ModuleId → List ModuleId → Bool
has target [] = false
has target (m ∷ ms) = m.0 == target.0 || has target ms

abbrev pub last_of : ModuleId → List ModuleId → ModuleId
last_of m [] = m
last_of m (x ∷ xs) = last_of x xs

unfoldable pub inside : Shape → ModuleId → ModuleId → Bool
inside t target m = has target (chain_of t (around t) m)

unfoldable pub settled : Shape → ModuleId → ModuleId
settled t m = last_of m (chain_of t (block_exit t) m)

abbrev pub visible : Shape → ModuleId → Visibility → Bool
visible t from Public = true
visible t from (PubCrate c) = (t.crate_of from).0 == c.0
visible t from (Module m mark) = inside t (settled t m) from

-- what a visibility names exists
abbrev pub named : Shape → Visibility → Bool
named t Public = true
named t (PubCrate c) = nat_lt c.0 t.crates
named t (Module m mark) = nat_lt m.0 t.modules

-- the asking module is tested first, then what the visibility names
abbrev pub asked : Shape → ModuleId → Visibility → Result Bool TreeFault
asked t from v =
    if nat_lt from.0 t.modules then (if named t v then Ok (visible t from v) else Err Dangling) else Err NoModule
