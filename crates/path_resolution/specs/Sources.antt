-- The sources of a path's first name, and their order.
use Rattle.std.specs.Prelude.{Bool, true, false, if◌then◌else◌, ◌||◌, List, [], ◌∷◌, is_some, Some, None, Option}
use Rattle.std.specs.List.{fold}
use Rattle.std.specs.Option.{option_map, option_map_or, option_or}
use Rattle.hir_def.specs.declared.MacroId.{MacroId}
use Rattle.hir_def.specs.declared.ModuleId.{ModuleId}
use Rattle.hir_def.specs.declared.ModuleDefId.{ModuleDefId}
use Rattle.hir_def.specs.declared.ModuleDefId.TheVariants as def
use Rattle.hir_def.specs.declared.Name.{Name}
use Rattle.hir_def.specs.declared.import.ImportOrExternCrate.TheVariants.{ExternCrate}
use Rattle.hir_def.specs.Builtins.{type_at}
use Rattle.nameres.specs.Shapes.{Shape, block_exit}
use Rattle.entries.specs.declared.per_ns.PerNs.{PerNs}
use Rattle.entries.specs.declared.visibility.Visibility.TheVariants.{Public}
use Rattle.entries.specs.Entries.{nothing, of_types, of_macros, or_else, kept_all}
use Rattle.item_scope.specs.declared.index_data.CallStyles.{CallStyles}
use Rattle.item_scope.specs.declared.index_data.DefMapId.{DefMapId}
use Rattle.item_scope.specs.declared.index_data.DefMapId.TheVariants as map
use Rattle.item_scope.specs.Views.{View, Types, Macros, entries_at}
use Rattle.path_resolution.specs.declared.question.BuiltinShadowMode.{BuiltinShadowMode}
use Rattle.path_resolution.specs.declared.question.BuiltinShadowMode.TheVariants as shadow
use Rattle.path_resolution.specs.declared.question.MacroSubNs.{MacroSubNs}
use Rattle.path_resolution.specs.declared.question.MacroSubNs.TheVariants.{Bang, Attr}
use Rattle.path_resolution.specs.declared.question.Question.{Question}
use Rattle.path_resolution.specs.Starts.{map_of}

-- whether a macro with those call styles is of the kind that is asked for
abbrev pub styles_fit : Option MacroSubNs → CallStyles → Bool
styles_fit None s = true
styles_fit (Some Bang) s = s.fn_like
styles_fit (Some Attr) s = s.attr || s.derive

abbrev pub fits : View → Option MacroSubNs → MacroId → Bool
fits v x d = styles_fit x (v.fixed.styles d)

abbrev pub macro_fitting : View → Option MacroSubNs → Option Macros → Option Macros
macro_fitting v x None = None
macro_fitting v x (Some it) = if fits v x it.def then Some it else None

-- a macro of another kind counts as none
abbrev pub fitting : View → Option MacroSubNs → PerNs → PerNs
fitting v x p = record { types = p.types; values = p.values; macros = macro_fitting v x p.macros }

abbrev pub from_legacy : View → ModuleId → Name → PerNs
from_legacy v m n = option_map_or (λ d. of_macros d Public None) (v.fixed.legacy m n) nothing

-- no built-in type is found in a block's map
abbrev pub from_builtin : Shape → ModuleId → Name → PerNs
from_builtin t m n =
    if is_some (t.block_of m) then nothing
    else option_map_or (λ b. of_types (def.BuiltinType b) Public None) (type_at n) nothing

abbrev pub from_extern_prelude : View → ModuleId → Name → PerNs
from_extern_prelude v m n =
    option_map_or (λ e. of_types (def.ModuleId e.module) Public (option_map ExternCrate e.extern_crate)) (v.fixed.extern_prelude (v.fixed.tree.crate_of m) n) nothing

abbrev pub from_macro_use : View → DefMapId → Name → PerNs
from_macro_use v d n =
    option_map_or (λ u. of_macros u.def Public (option_map ExternCrate u.extern_crate)) (v.fixed.macro_use d n) nothing

-- of a prelude module's entries those that the judge may see
abbrev pub from_prelude : View → DefMapId → ModuleId → Name → PerNs
from_prelude v d judge n =
    option_map_or (λ p. kept_all v.fixed.tree judge (entries_at v p n)) (v.fixed.prelude d) nothing

-- the first that is filled, in each namespace
abbrev pub first_filled : List PerNs → PerNs
first_filled = fold or_else nothing

-- the preludes of the crate of m, which also judges who may see
abbrev pub from_preludes : View → Option MacroSubNs → ModuleId → Name → PerNs
from_preludes v x m n =
    let d = map.Crate (v.fixed.tree.crate_of m) in
    first_filled (from_extern_prelude v m n ∷ fitting v x (from_macro_use v d n) ∷ fitting v x (from_prelude v d m n) ∷ [])

abbrev pub is_module_def : ModuleDefId → Bool
is_module_def (def.ModuleId m) = true
is_module_def _ = false

abbrev pub is_module : Option Types → Bool
is_module None = false
is_module (Some it) = is_module_def it.def

-- in shadow mode Other a built-in type precedes a module
abbrev pub precedes : BuiltinShadowMode → Option Types → Bool
precedes shadow.Module own = false
precedes shadow.Other own = is_module own

abbrev pub builtin_first : BuiltinShadowMode → PerNs → Bool
builtin_first s own = precedes s own.types

abbrev pub is_block_root : Shape → ModuleId → Bool
is_block_root t m = is_some (block_exit t m)

-- what a block root skips
abbrev pub skipped_in_block_roots : Shape → ModuleId → PerNs → PerNs
skipped_in_block_roots t m p = if is_block_root t m then nothing else p

-- a first plain name that is asked in m: legacy macro, own places, built-in type, extern prelude, macro-use prelude, prelude
abbrev pub sources : View → Question → BuiltinShadowMode → ModuleId → Name → List PerNs
sources v q s m n =
    let x = q.expected_macro_subns in
    let d = map_of v.fixed.tree m in
    let own = fitting v x (entries_at v m n) in
    let builtin = from_builtin v.fixed.tree m n in
    fitting v x (from_legacy v m n)
    ∷ (if builtin_first s own then builtin else own)
    ∷ (if builtin_first s own then own else builtin)
    ∷ skipped_in_block_roots v.fixed.tree m (from_extern_prelude v m n)
    ∷ fitting v x (from_macro_use v d n)
    ∷ skipped_in_block_roots v.fixed.tree m (fitting v x (from_prelude v d q.original_module n))
    ∷ []

-- the same of one namespace, in whose own place stands that entry: of the types, and of the macros without the prelude
abbrev pub type_in_module : View → BuiltinShadowMode → ModuleId → Name → Option Types → Option Types
type_in_module v s m n own =
    let builtin = (from_builtin v.fixed.tree m n).types in
    option_or (if precedes s own then option_or builtin own else option_or own builtin) (skipped_in_block_roots v.fixed.tree m (from_extern_prelude v m n)).types

abbrev pub macro_in_module : View → Option MacroSubNs → ModuleId → Name → Option Macros → Option Macros
macro_in_module v x m n own =
    option_or (option_or (fitting v x (from_legacy v m n)).macros (macro_fitting v x own)) (fitting v x (from_macro_use v (map_of v.fixed.tree m) n)).macros

abbrev pub from_module : View → Question → BuiltinShadowMode → ModuleId → Name → PerNs
from_module v q s m n = first_filled (sources v q s m n)

-- edition 2015: the crate's root, then the extern prelude unless a block root asks
abbrev pub from_crate_root : View → ModuleId → Name → PerNs
from_crate_root v m n =
    or_else (entries_at v (v.fixed.tree.crate_root (v.fixed.tree.crate_of m)) n)
    (skipped_in_block_roots v.fixed.tree m (from_extern_prelude v m n))
