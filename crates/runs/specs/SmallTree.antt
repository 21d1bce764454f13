-- The small tree: that it keeps the laws of an index, paths of which the chain law speaks and what it says of them, a delivery that is
-- hidden, and two runs that come to the same.
use Rattle.std.specs.Prelude.{◌≡◌, ℕ, Bool, true, false, List, [], ◌∷◌, map, Some, None, Ok}
use Rattle.hir_def.specs.declared.Name.{Name}
use Rattle.hir_def.specs.declared.import.ImportOrExternCrate.{ImportOrExternCrate}
use Rattle.hir_def.specs.declared.import.ImportOrExternCrate.TheVariants.{Glob, Import}
use Rattle.nameres.specs.Shapes.{Rules}
use Rattle.path_text.specs.declared.mod_path.PathKind.TheVariants.{Crate}
use Rattle.entries.specs.declared.visibility.Visibility.{Visibility}
use Rattle.entries.specs.declared.visibility.Visibility.TheVariants.{Public}
use Rattle.entries.specs.Entries.{nothing, of_types, of_values}
use Rattle.item_scope.specs.declared.delivery.Delivery.{Delivery}
use Rattle.item_scope.specs.Deliveries.{delivery_of, refused}
use Rattle.item_scope.specs.Views.{Sound}
use Rattle.path_resolution.specs.declared.answer.ReachedFixedPoint.TheVariants.{Yes, No}
use Rattle.path_resolution.specs.declared.answer.ResolvePathResult.{ResolvePathResult as Answer}
use Rattle.path_resolution.specs.SmallTree.{small_tree, module_at, module_def, function_def, private_to, told}
use Rattle.runs.specs.declared.calls.Call.{Call}
use Rattle.runs.specs.declared.calls.Call.TheVariants.{Deliver}
use Rattle.runs.specs.Chains.{IsChain, ChainAnswer, root_of}
use Rattle.runs.specs.Hidden.{IsHidden}
use Rattle.runs.specs.Order.{TakeTheSame}
use Rattle.runs.specs.Runs.{State, state, Ran}

abbrev pub names : List ℕ → List Name
names = map (λ n. record { 0 = n })

-- what the laws of an index promise of all that it tells: its tree keeps the rules, where a module's rank is its number, and every number
-- that is told exists
pub record Lawful : Type 0 where
  pub ruled : Rules small_tree.fixed.tree (λ m. m.0)
  pub sound : Sound small_tree

-- the `crate` path with those names, asked in the module m, is a chain, and the answer has what the law says of one, and no other
pub record Decides (ns : List ℕ) (m : ℕ) (a : Answer) : Type 0 where
  pub is_chain : IsChain small_tree (module_at m) Crate (names ns)
  pub holds : ChainAnswer small_tree (module_at m) (root_of small_tree (module_at m)) (names ns) a
  pub only : (b : Answer) → ChainAnswer small_tree (module_at m) (root_of small_tree (module_at m)) (names ns) b → b ≡ a

-- the examples with modules only
pub record Chains : Type 0 where
  pub a : Decides (20 ∷ []) 3 (told (of_types (module_def 1) (private_to 0) None) None Yes false)
  pub a-f_hidden : Decides (20 ∷ 24 ∷ []) 3 (told nothing None Yes false)
  pub a-f : Decides (20 ∷ 24 ∷ []) 2 (told (of_values (function_def 7) (private_to 1) None) None Yes false)
  pub a-b-f_hidden : Decides (20 ∷ 21 ∷ 24 ∷ []) 3 (told nothing None No false)
  pub a-b-f : Decides (20 ∷ 21 ∷ 24 ∷ []) 1 (told (of_values (function_def 8) Public None) None Yes false)
  pub c-g_hidden : Decides (22 ∷ 25 ∷ []) 3 (told nothing None Yes false)

-- a function comes to the name g of the module a
abbrev pub brings_g : ℕ → Visibility → ImportOrExternCrate → Delivery
brings_g f vis i = delivery_of (module_at 1) (record { 0 = 25 }) None (Some (record { def = function_def f; vis = vis; import = None })) None (Some i)

-- one that is private to a is hidden from c, and is taken where a row is free
pub record Hides : Type 0 where
  pub is_hidden : IsHidden small_tree (module_at 3) (brings_g 11 (private_to 1) (Import (record { 0 = 0 })))
  pub is_taken : refused small_tree 1 (brings_g 11 (private_to 1) (Import (record { 0 = 0 }))) ≡ None

-- one by a glob and one by name, each with whether it changed the place
abbrev pub by_glob : Bool → Call
by_glob changed = Deliver (brings_g 12 Public (Glob (record { 0 = 0 }))) (Some (Ok changed))

abbrev pub by_name : Bool → Call
by_name changed = Deliver (brings_g 13 Public (Import (record { 0 = 1 }))) (Some (Ok changed))

abbrev pub glob_first : List Call
glob_first = by_glob true ∷ by_name true ∷ []

abbrev pub name_first : List Call
name_first = by_name true ∷ by_glob false ∷ []

-- both can be made where two rows are free, and under both each place takes the same
pub record Reorders : Type 0 where
  pub globs_before_names : (t : State) × Ran (state small_tree 2) glob_first t
  pub names_before_globs : (t : State) × Ran (state small_tree 2) name_first t
  pub take_the_same : TakeTheSame small_tree glob_first name_first
