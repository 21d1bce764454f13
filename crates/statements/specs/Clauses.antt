-- What the words of a statement's clauses say.
use Rattle.std.specs.Prelude.{◌≡◌, ℕ, Bool, ◌||◌, if◌then◌else◌, List, ◌++◌, codes, Option, Some, None}
use Rattle.std.specs.Str.{bytes_eq}
use Rattle.item_scope.specs.declared.index_data.CallStyles.{CallStyles}
use Rattle.path_resolution.specs.declared.question.BuiltinShadowMode.{BuiltinShadowMode}
use Rattle.path_resolution.specs.declared.question.BuiltinShadowMode.TheVariants as shadow
use Rattle.path_resolution.specs.declared.question.MacroSubNs.{MacroSubNs}
use Rattle.path_resolution.specs.declared.question.MacroSubNs.TheVariants.{Bang, Attr}
use Rattle.path_resolution.specs.declared.question.ResolveMode.{ResolveMode}
use Rattle.path_resolution.specs.declared.question.ResolveMode.TheVariants as mode
use Rattle.statements.specs.declared.asking.Asking.{Asking}
use Rattle.statements.specs.declared.clauses.RawVisibility.{RawVisibility}
use Rattle.statements.specs.declared.clauses.RawVisibility.TheVariants.{Public, Crate, In, Private}
use Rattle.statements.specs.declared.kinds.Shape.{Shape}
use Rattle.statements.specs.declared.kinds.Shape.TheVariants as shape

-- the words that say how a macro is called
abbrev pub is_style : List ℕ → Bool
is_style w = bytes_eq w (codes "bang") || (bytes_eq w (codes "attribute") || bytes_eq w (codes "derive"))

-- the ways in which a macro is called, with the one that the word says
unfoldable pub with_style : CallStyles → List ℕ → CallStyles
with_style s w = record {
  fn_like = s.fn_like || bytes_eq w (codes "bang");
  attr = s.attr || bytes_eq w (codes "attribute");
  derive = s.derive || bytes_eq w (codes "derive");
}

-- the same where the word says one of them, or none
abbrev pub styles_of : CallStyles → List ℕ → Option CallStyles
styles_of s w = if is_style w then Some (with_style s w) else None

-- the words that are options of a question
abbrev pub is_option : List ℕ → Bool
is_option w =
    bytes_eq w (codes "mode=import") || (bytes_eq w (codes "mode=other")
    || (bytes_eq w (codes "shadow=module") || (bytes_eq w (codes "shadow=other")
    || (bytes_eq w (codes "macro=bang") || bytes_eq w (codes "macro=attribute")))))

-- the mode that the word says, or else the one that was told before it
abbrev pub mode_of : List ℕ → ResolveMode → ResolveMode
mode_of w before =
    if bytes_eq w (codes "mode=import") then mode.Import
    else if bytes_eq w (codes "mode=other") then mode.Other
    else before

-- the shadow mode, in the same way
abbrev pub shadow_of : List ℕ → BuiltinShadowMode → BuiltinShadowMode
shadow_of w before =
    if bytes_eq w (codes "shadow=module") then shadow.Module
    else if bytes_eq w (codes "shadow=other") then shadow.Other
    else before

-- the kind of macro that is asked for, in the same way
abbrev pub expected_of : List ℕ → Option MacroSubNs → Option MacroSubNs
expected_of w before =
    if bytes_eq w (codes "macro=bang") then Some Bang
    else if bytes_eq w (codes "macro=attribute") then Some Attr
    else before

-- who asks, with the option that the word says
abbrev pub with_option : Asking → List ℕ → Asking
with_option a w = record a {
  mode = mode_of w a.mode;
  shadow = shadow_of w a.shadow;
  expected = expected_of w a.expected;
}

-- the same where the word is an option, or none
abbrev pub asking_of : Asking → List ℕ → Option Asking
asking_of a w = if is_option w then Some (with_option a w) else None

abbrev pub shape_of : List ℕ → Option Shape
shape_of w =
    if bytes_eq w (codes "unit") then Some shape.Unit
    else if bytes_eq w (codes "tuple") then Some shape.Tuple
    else if bytes_eq w (codes "record") then Some shape.Record
    else None

-- what a visibility is written as: a word, and of the module that is named the next one, which ends the parenthesis
abbrev pub Says : List ℕ → List ℕ → RawVisibility → Type 0
Says w next Public = w ≡ codes "pub"
Says w next Crate = w ≡ codes "pub(crate)"
Says w next (In m) = (w ≡ codes "pub(in") × (next ≡ m.text.now ++ codes ")")
Says w next Private = w ≡ codes "private"
