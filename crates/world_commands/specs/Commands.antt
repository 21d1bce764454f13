-- What the words of a line say: deliveries, questions, paths and commands.
use Rattle.std.specs.Prelude.{◌≡◌, ℕ, List, [], ◌∷◌, codes, Option, Some, None, vec_items}
use Rattle.std.specs.List.{AllZip}
use Rattle.entries.specs.declared.per_ns.PerNs.{PerNs}
use Rattle.item_scope.specs.declared.delivery.Delivery.{Delivery}
use Rattle.hir_def.specs.declared.ModuleId.{ModuleId}
use Rattle.hir_def.specs.declared.Name.{Name}
use Rattle.path_text.specs.declared.mod_path.ModPath.{ModPath}
use Rattle.path_text.specs.declared.mod_path.PathKind.{PathKind}
use Rattle.path_resolution.specs.declared.question.BuiltinShadowMode.{BuiltinShadowMode}
use Rattle.path_resolution.specs.declared.question.BuiltinShadowMode.TheVariants as shadow
use Rattle.path_resolution.specs.declared.question.MacroSubNs.{MacroSubNs}
use Rattle.path_resolution.specs.declared.question.MacroSubNs.TheVariants.{Bang, Attr}
use Rattle.path_resolution.specs.declared.question.Question.{Question}
use Rattle.path_resolution.specs.declared.question.ResolveMode.{ResolveMode}
use Rattle.path_resolution.specs.declared.question.ResolveMode.TheVariants as mode
use Rattle.world_commands.specs.declared.command.Command.{Command}
use Rattle.world_commands.specs.declared.command.Command.TheVariants as command
use Rattle.paths.specs.Apart.{FitsKind}
use Rattle.paths.specs.Shown.{kind_text}
use Rattle.world_commands.specs.Words.{parts_of, IsNumber, bytes_of, IsVisibility, IsImport, IsTypes, IsValues, IsMacros}

-- a module and a name, each a word
unfoldable pub IsPlace : ModuleId × Name → List ℕ × List ℕ → Type 0
IsPlace (m, n) (a, b) = IsNumber m.0 a × IsNumber n.0 b

-- the entries of the types, the values and the macros
unfoldable pub IsEntries : PerNs → List ℕ × (List ℕ × List ℕ) → Type 0
IsEntries e (t, (v, m)) = IsTypes e.types t × IsValues e.values v × IsMacros e.macros m

-- the words of a delivery after `deliver`
unfoldable pub IsDelivery : Delivery → List (List ℕ) → Type 0
IsDelivery d (at ∷ n ∷ t ∷ v ∷ m ∷ i ∷ []) =
    IsPlace (d.receiver, d.name) (at, n) × IsEntries d.entries (t, (v, m)) × IsImport d.import i
IsDelivery d _ = ⊥

abbrev pub IsMode : ResolveMode → List ℕ → Type 0
IsMode mode.Import w = w ≡ codes "import"
IsMode mode.Other w = w ≡ codes "other"

abbrev pub IsShadow : BuiltinShadowMode → List ℕ → Type 0
IsShadow shadow.Module w = w ≡ codes "module"
IsShadow shadow.Other w = w ≡ codes "other"

abbrev pub IsExpected : Option MacroSubNs → List ℕ → Type 0
IsExpected None w = w ≡ codes "-"
IsExpected (Some Bang) w = w ≡ codes "bang"
IsExpected (Some Attr) w = w ≡ codes "attr"

-- the words of a question before those of its path, and after them
abbrev pub IsQuestion : Question → (List ℕ × List ℕ) × (List ℕ × List ℕ) → Type 0
IsQuestion q ((m, at), (s, x)) = IsMode q.mode m × IsNumber q.original_module.0 at × IsShadow q.shadow s × IsExpected q.expected_macro_subns x

abbrev pub IsKind : PathKind → List ℕ → Type 0
IsKind k w = FitsKind k × (w ≡ kind_text k)

-- each name's number with dots between, or `-` for no names
unfoldable pub IsNames : List Name → List ℕ → Type 0
IsNames [] w = w ≡ codes "-"
IsNames (n ∷ ns) w = AllZip (λ m part. IsNumber m.0 part) (n ∷ ns) (parts_of 46 w)

-- the words of a path
unfoldable pub IsPath : ModPath → List ℕ × List ℕ → Type 0
IsPath p (k, ns) = IsKind p.kind k × IsNames (vec_items p.names) ns

-- the first word of a command
abbrev pub verb_of : Command → List ℕ
verb_of (command.Deliver d) = codes "deliver"
verb_of (command.Ask q p) = codes "ask"
verb_of (command.AskText q t) = codes "asktext"
verb_of (command.Place m n) = codes "place"
verb_of (command.Sight v m) = codes "sight"
verb_of (command.Read t) = codes "read"
verb_of command.Left = codes "left"

-- the words of a command after its verb
abbrev pub HasFields : Command → List (List ℕ) → Type 0
HasFields (command.Deliver d) fields = IsDelivery d fields
HasFields (command.Ask q p) (m ∷ at ∷ k ∷ ns ∷ s ∷ x ∷ []) = IsQuestion q ((m, at), (s, x)) × IsPath p (k, ns)
HasFields (command.AskText q t) (m ∷ at ∷ w ∷ s ∷ x ∷ []) = IsQuestion q ((m, at), (s, x)) × (bytes_of w ≡ Some (vec_items t))
HasFields (command.Place m n) (a ∷ b ∷ []) = IsPlace (m, n) (a, b)
HasFields (command.Sight v m) (a ∷ b ∷ []) = IsVisibility v a × IsNumber m.0 b
HasFields (command.Read t) (w ∷ []) = bytes_of w ≡ Some (vec_items t)
HasFields command.Left [] = Unit {0}
HasFields _ _ = ⊥

-- the words of a command's line
abbrev pub IsCommand : Command → List (List ℕ) → Type 0
IsCommand c [] = ⊥
IsCommand c (verb ∷ fields) = (verb ≡ verb_of c) × HasFields c fields
