-- What comes first wins: the earlier source of a name, and the inner module of those that are asked outward.
use Rattle.std.specs.Prelude.{◌≡◌, true, false, List, [], ◌∷◌, ◌++◌, ◌⊎◌, Some, None, Option}
use Rattle.std.specs.List.{All}
use Rattle.hir_def.specs.declared.MacroId.{MacroId}
use Rattle.hir_def.specs.declared.Name.{Name}
use Rattle.path_text.specs.declared.mod_path.PathKind.{PathKind}
use Rattle.path_text.specs.declared.mod_path.PathKind.TheVariants.{Plain}
use Rattle.entries.specs.declared.per_ns.PerNs.{PerNs}
use Rattle.entries.specs.declared.visibility.Visibility.TheVariants.{Public}
use Rattle.item_scope.specs.Places.{holder}
use Rattle.item_scope.specs.Views.{View, Types, Values, Macros}
use Rattle.path_resolution.specs.declared.answer.ResolvePathResult.{ResolvePathResult as Answer}
use Rattle.path_resolution.specs.declared.question.BuiltinShadowMode.TheVariants.{Other}
use Rattle.path_resolution.specs.declared.question.Question.{Question}
use Rattle.path_resolution.specs.Singles.{as_2015, single_of}
use Rattle.path_resolution.specs.Sources.{sources, fits, from_builtin, is_module_def}

-- in one namespace: the source that has an entry, where none before it has one, gives the entry
abbrev pub Wins : {E : Type 0} → (PerNs → Option E) → List PerNs → PerNs → Type 0
Wins {E} part sources p =
    (before : List PerNs) (s : PerNs) (after : List PerNs) (e : E)
    → sources ≡ before ++ s ∷ after → All (λ b. part b ≡ None) before → part s ≡ Some e → part p ≡ Some e

-- in each namespace the earliest source wins, whatever the later ones have
pub record EarlierWins (sources : List PerNs) (p : PerNs) : Type 0 where
  pub types : Wins (λ s. s.types) sources p
  pub values : Wins (λ s. s.values) sources p
  pub macros : Wins (λ s. s.macros) sources p

-- what is found stays
pub record Keeps (p q : PerNs) : Type 0 where
  pub types : (e : Types) → p.types ≡ Some e → q.types ≡ Some e
  pub values : (e : Values) → p.values ≡ Some e → q.values ≡ Some e
  pub macros : (e : Macros) → p.macros ≡ Some e → q.macros ≡ Some e

-- what the asking module answers is hidden by nothing that is asked further outward
abbrev pub InnerFirst : View → Question → PathKind → List Name → Answer → Type 0
InnerFirst v q k ns a = Keeps (single_of v q k ns q.original_module).answer.resolved_def a.resolved_def

abbrev pub legacy_entry : MacroId → Macros
legacy_entry d = record { def = d; vis = Public; import = None }

-- in shadow mode Other a built-in type answers before a module of its name
pub record BuiltinPrecedes (v : View) (q : Question) (n : Name) (it : Types) (p : PerNs) : Type 0 where
  pub shadow : q.shadow ≡ Other
  pub over : is_module_def it.def ≡ true
  pub ty : Types
  pub builtin : (from_builtin v.fixed.tree q.original_module n).types ≡ Some ty
  pub answers : p.types ≡ Some ty

-- where the asking module's own place holds an entry of the asked kind, no prelude answers: the entry itself does, or in types
-- the built-in type that precedes a module, and in macros the legacy macro of that name
pub record OwnFirst (v : View) (q : Question) (n : Name) (p : PerNs) : Type 0 where
  pub types : (it : Types) → holder (v.types q.original_module n) ≡ Some it
      → (p.types ≡ Some it) ⊎ BuiltinPrecedes v q n it p
  pub values : (it : Values) → holder (v.values q.original_module n) ≡ Some it → p.values ≡ Some it
  pub macros : (it : Macros) → holder (v.macros q.original_module n) ≡ Some it → fits v q.expected_macro_subns it.def ≡ true
      → (p.macros ≡ Some it) ⊎ ((d : MacroId) × (v.fixed.legacy q.original_module n ≡ Some d) × (p.macros ≡ Some (legacy_entry d)))

-- of a plain path of one name, save in plain imports of edition 2015: the earliest source wins
abbrev pub SourceOrder : View → Question → PathKind → List Name → Answer → Type 0
SourceOrder v q k ns a =
    k ≡ Plain → as_2015 v q k q.original_module ≡ false → (n : Name) → ns ≡ n ∷ [] → EarlierWins (sources v q q.shadow q.original_module n) a.resolved_def

-- and so own names come before every prelude
abbrev pub OwnNamesFirst : View → Question → PathKind → List Name → Answer → Type 0
OwnNamesFirst v q k ns a =
    k ≡ Plain → as_2015 v q k q.original_module ≡ false → (n : Name) → ns ≡ n ∷ [] → OwnFirst v q n a.resolved_def
