-- What is written of modules and visibilities.
use Rattle.std.specs.Prelude.{ℕ, List, [], ◌∷◌, ◌++◌, Option, Some, None, codes, decimal, map}
use Rattle.std.specs.Borrow.{Bor}
use Rattle.std.specs.List.{slice_get}
use Rattle.hir_def.specs.declared.ModuleId.{ModuleId}
use Rattle.entries.specs.declared.visibility.Visibility.{Visibility}
use Rattle.entries.specs.declared.visibility.Visibility.TheVariants.{Module, PubCrate, Public}
use Rattle.entries.specs.declared.visibility.VisibilityExplicitness.TheVariants.{Explicit, Implicit}

-- the full names of modules, by their numbers, as a file holds them
abbrev pub held : List (Bor (List ℕ)) → List (List ℕ)
held names = map (λ n. n.now) names

abbrev name_or_number : Option (List ℕ) → ℕ → List ℕ
name_or_number (Some name) n = name
name_or_number None n = codes "#" ++ decimal n

-- a module's full name, or its number where it has none
abbrev pub module_text : List (List ℕ) → ModuleId → List ℕ
module_text names m = name_or_number (slice_get names m.0) m.0

abbrev pub visibility_text : List (List ℕ) → Visibility → List ℕ
visibility_text names Public = codes "pub"
visibility_text names (PubCrate c) = codes "pub(crate)"
visibility_text names (Module m Implicit) = codes "private"
visibility_text names (Module m Explicit) = codes "pub(in " ++ module_text names m ++ codes ")"

-- each module with a text before it
abbrev pub each_module : List (List ℕ) → List ℕ → List ModuleId → List ℕ
each_module names before [] = []
each_module names before (m ∷ ms) = before ++ module_text names m ++ each_module names before ms

-- modules with a text between them
abbrev pub modules_text : List (List ℕ) → List ℕ → List ModuleId → List ℕ
modules_text names between [] = []
modules_text names between (m ∷ ms) = module_text names m ++ each_module names between ms
