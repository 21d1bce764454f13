-- Each refusal's layer, number and place.
use Rattle.std.specs.Prelude.{◌≡◌, ℕ, true, is_ok, Ok, Err, Result}
use Rattle.hir_def.specs.declared.Namespace.{Namespace}
use Rattle.hir_def.specs.declared.Namespace.TheVariants.{Types, Values, Macros}
use Rattle.hir_def.specs.declared.fault.TextFault.{TextFault}
use Rattle.hir_def.specs.declared.fault.TextFault.TheVariants as text
use Rattle.hir_def.specs.declared.fault.PathFault.{PathFault}
use Rattle.hir_def.specs.declared.fault.PathFault.TheVariants as path
use Rattle.hir_def.specs.declared.fault.TreeFault.{TreeFault}
use Rattle.hir_def.specs.declared.fault.TreeFault.TheVariants as tree
use Rattle.hir_def.specs.declared.fault.IndexFault.{IndexFault}
use Rattle.hir_def.specs.declared.fault.IndexFault.TheVariants as index
use Rattle.hir_def.specs.declared.fault.Fault.{Fault}
use Rattle.hir_def.specs.declared.fault.Fault.TheVariants.{Text, Path, Tree, Index}
use Rattle.hir_def.specs.declared.fault.Layer.{Layer}
use Rattle.hir_def.specs.declared.fault.Layer.TheVariants as layer
use Rattle.hir_def.specs.declared.fault.FaultCode.{FaultCode}
use Rattle.hir_def.specs.declared.fault.Failure.{Failure}
use Rattle.hir_def.specs.declared.fault.Failure.TheVariants.{Memory, Refused}

abbrev pub text_number : TextFault → ℕ
text_number text.TooManyNames = 2
text_number text.TooManySupers = 2
text_number (text.BadLine line) = 8
text_number (text.BadText at) = 9
text_number (text.UnknownName at) = 10

abbrev pub text_place : TextFault → ℕ
text_place text.TooManyNames = 64
text_place text.TooManySupers = 255
text_place (text.BadLine line) = line
text_place (text.BadText at) = at
text_place (text.UnknownName at) = at

abbrev pub path_number : PathFault → ℕ
path_number path.NoModule = 1
path_number path.TooManyNames = 2
path_number path.TooManySupers = 2
path_number path.NoCrate = 3
path_number (path.NoName i) = 4

abbrev pub path_place : PathFault → ℕ
path_place path.NoModule = 0
path_place path.TooManyNames = 64
path_place path.TooManySupers = 255
path_place path.NoCrate = 0
path_place (path.NoName i) = i

abbrev pub tree_number : TreeFault → ℕ
tree_number tree.NoModule = 1
tree_number tree.Dangling = 6
tree_number (tree.BadRow row) = 8

abbrev pub tree_place : TreeFault → ℕ
tree_place tree.NoModule = 0
tree_place tree.Dangling = 0
tree_place (tree.BadRow row) = row

abbrev pub namespace_number : Namespace → ℕ
namespace_number Types = 0
namespace_number Values = 1
namespace_number Macros = 2

abbrev pub index_number : IndexFault → ℕ
index_number index.NoModule = 1
index_number index.NoName = 4
index_number index.NothingFilled = 5
index_number (index.Dangling n) = 6
index_number (index.NoRows left) = 7
index_number (index.BadRow row) = 8

abbrev pub index_place : IndexFault → ℕ
index_place index.NoModule = 0
index_place index.NoName = 0
index_place index.NothingFilled = 0
index_place (index.Dangling n) = namespace_number n
index_place (index.NoRows left) = left
index_place (index.BadRow row) = row

abbrev coded : Layer → ℕ → ℕ → FaultCode
coded l n p = record { layer = l; number = n; place = p }

abbrev pub code_of : Fault → FaultCode
code_of (Text f) = coded layer.Text (text_number f) (text_place f)
code_of (Path f) = coded layer.Path (path_number f) (path_place f)
code_of (Tree f) = coded layer.Tree (tree_number f) (tree_place f)
code_of (Index f) = coded layer.Index (index_number f) (index_place f)

-- P of a refusal; want of memory is none
abbrev pub IfRefused : {R : Type 0} → (R → Type 0) → Failure R → Type 0
IfRefused P (Memory e) = Unit {0}
IfRefused P (Refused r) = P r

-- P where a call wanted memory
abbrev pub OnMemory : {T R : Type 0} → Result T (Failure R) → Type 0 → Type 0
OnMemory (Ok x) P = Unit {0}
OnMemory (Err (Memory e)) P = P
OnMemory (Err (Refused r)) P = Unit {0}

-- the call answers what was to be answered, as it is seen, or refuses what was to be refused; it may also want memory, but
-- only where nothing was to be refused
abbrev pub Answers : {A B R : Type 0} → (B → A) → Result A R → Result B (Failure R) → Type 0
Answers seen due (Ok b) = due ≡ Ok (seen b)
Answers seen due (Err (Refused r)) = due ≡ Err r
Answers seen due (Err (Memory e)) = is_ok due ≡ true
