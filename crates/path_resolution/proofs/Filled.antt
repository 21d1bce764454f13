-- A first name's entries namespace by namespace: a source that has one namespace alone counts for nothing in the others.
use Rattle.std.proofs.Common.{◌≡◌, Bool, true, false, if◌then◌else◌, [], ◌∷◌, is_some, Some, None, Option, refl}
use Rattle.std.specs.Option.{option_or, option_map, option_map_or}
use Rattle.hir_def.specs.declared.MacroId.{MacroId}
use Rattle.hir_def.specs.declared.ModuleId.{ModuleId}
use Rattle.hir_def.specs.declared.ModuleDefId.{ModuleDefId}
use Rattle.hir_def.specs.declared.ModuleDefId.TheVariants as def
use Rattle.hir_def.specs.declared.Name.{Name}
use Rattle.hir_def.specs.declared.import.ImportOrExternCrate.{ImportOrExternCrate}
use Rattle.hir_def.specs.declared.import.ImportOrExternCrate.TheVariants.{ExternCrate}
use Rattle.hir_def.specs.Builtins.{type_at}
use Rattle.entries.specs.declared.per_ns.PerNs.{PerNs}
use Rattle.entries.specs.declared.visibility.Visibility.TheVariants.{Public}
use Rattle.entries.specs.Entries.{nothing, of_types, of_macros, or_else}
use Rattle.item_scope.specs.declared.index_data.DefMapId.{DefMapId}
use Rattle.item_scope.specs.declared.index_data.DefMapId.TheVariants as map
use Rattle.item_scope.specs.Views.{View, entries_at}
use Rattle.nameres.specs.Shapes.{Shape}
use Rattle.path_resolution.specs.declared.question.BuiltinShadowMode.{BuiltinShadowMode}
use Rattle.path_resolution.specs.declared.question.MacroSubNs.{MacroSubNs}
use Rattle.path_resolution.specs.declared.question.Question.{Question}
use Rattle.path_resolution.specs.Sources.{fitting, from_legacy, from_builtin, from_extern_prelude, from_macro_use, from_prelude, from_preludes, first_filled, precedes, is_block_root, skipped_in_block_roots, type_in_module, macro_in_module, from_module, from_crate_root}
use Rattle.path_resolution.specs.Starts.{map_of}

abbrev only_types : PerNs → PerNs
only_types p = record { types = p.types; values = None; macros = None }

abbrev only_macros : PerNs → PerNs
only_macros p = record { types = None; values = None; macros = p.macros }

named_types : {A : Type 0} (d : A → ModuleDefId) (i : A → Option ImportOrExternCrate) (o : Option A)
    → let p = option_map_or (λ a. of_types (d a) Public (i a)) o nothing in p ≡ only_types p
named_types d i None = refl
named_types d i (Some a) = refl

named_macros : {A : Type 0} (d : A → MacroId) (i : A → Option ImportOrExternCrate) (v : View) (x : Option MacroSubNs) (o : Option A)
    → let p = fitting v x (option_map_or (λ a. of_macros (d a) Public (i a)) o nothing) in p ≡ only_macros p
named_macros d i v x None = refl
named_macros d i v x (Some a) = refl

or_nothing : {A : Type 0} (o : Option A) → option_or o None ≡ o
or_nothing None = refl
or_nothing (Some a) = refl

builtin_types : (t : Shape) (m : ModuleId) (n : Name) → from_builtin t m n ≡ only_types (from_builtin t m n)
builtin_types t m n = elim (is_some (t.block_of m)) as (λ b. let p = if b then nothing else option_map_or (λ k. of_types (def.BuiltinType k) Public None) (type_at n) nothing in p ≡ only_types p) [
  | true ↦ refl
  | false ↦ named_types (λ k. def.BuiltinType k) (λ k. None) (type_at n)
]

-- the sources of the preludes, of which the first tells types and the second macros
preludes : (e u p : PerNs) → e ≡ only_types e → u ≡ only_macros u
    → record { types = option_or e.types p.types; values = p.values; macros = option_or u.macros p.macros } ≡ first_filled (e ∷ u ∷ p ∷ [])
preludes e u p types macros = rw (types, macros, or_nothing e.types) refl

-- the sources of a module: legacy macros, own places and built-in type in either order, extern prelude, macro-use prelude, prelude
all : (c : Bool) (l s b e u p : PerNs) → l ≡ only_macros l → b ≡ only_types b → e ≡ only_types e → u ≡ only_macros u
    → record {
      types = option_or (option_or (if c then option_or b.types s.types else option_or s.types b.types) e.types) p.types;
      values = option_or s.values p.values;
      macros = option_or (option_or (option_or l.macros s.macros) u.macros) p.macros;
    } ≡ first_filled (l ∷ (if c then b else s) ∷ (if c then s else b) ∷ e ∷ u ∷ p ∷ [])
all true l s b e u p hl hb he hu =
    rw (hl, hb, he, hu, or_nothing l.macros, or_nothing s.values, or_nothing s.values, or_nothing (option_or l.macros s.macros), or_nothing (option_or (option_or b.types s.types) e.types)) refl
all false l s b e u p hl hb he hu =
    rw (hl, hb, he, hu, or_nothing s.values, or_nothing s.values, or_nothing s.values, or_nothing (option_or l.macros s.macros), or_nothing (option_or l.macros s.macros), or_nothing (option_or (option_or s.types b.types) e.types)) refl

skipped_types : (t : Shape) (m : ModuleId) (p : PerNs) → p ≡ only_types p → skipped_in_block_roots t m p ≡ only_types (skipped_in_block_roots t m p)
skipped_types t m p types = elim (is_block_root t m) as (λ b. let r = if b then nothing else p in r ≡ only_types r) [
  | true ↦ refl
  | false ↦ types
]

module _ (v : View) (m : ModuleId) (n : Name) where
  extern_types : from_extern_prelude v m n ≡ only_types (from_extern_prelude v m n)
  extern_types = named_types (λ e. def.ModuleId e.module) (λ e. option_map ExternCrate e.extern_crate) (v.fixed.extern_prelude (v.fixed.tree.crate_of m) n)

  use_macros : (x : Option MacroSubNs) (d : DefMapId) → let u = fitting v x (from_macro_use v d n) in u ≡ only_macros u
  use_macros x d = named_macros (λ u. u.def) (λ u. option_map ExternCrate u.extern_crate) v x (v.fixed.macro_use d n)

  legacy_macros : (x : Option MacroSubNs) → let l = fitting v x (from_legacy v m n) in l ≡ only_macros l
  legacy_macros x = named_macros (λ d. d) (λ d. None) v x (v.fixed.legacy m n)

  pub preludes_filled : (x : Option MacroSubNs)
      → let d = map.Crate (v.fixed.tree.crate_of m) in
      let p = fitting v x (from_prelude v d m n) in
      record {
        types = option_or (from_extern_prelude v m n).types p.types;
        values = p.values;
        macros = option_or (fitting v x (from_macro_use v d n)).macros p.macros;
      } ≡ from_preludes v x m n
  preludes_filled x =
      let d = map.Crate (v.fixed.tree.crate_of m) in
      preludes (from_extern_prelude v m n) (fitting v x (from_macro_use v d n)) (fitting v x (from_prelude v d m n)) extern_types (use_macros x d)

  pub module_filled : (q : Question) (s : BuiltinShadowMode)
      → let t = v.fixed.tree in
      let x = q.expected_macro_subns in
      let own = entries_at v m n in
      let p = skipped_in_block_roots t m (fitting v x (from_prelude v (map_of t m) q.original_module n)) in
      or_else (record { types = type_in_module v s m n own.types; values = own.values; macros = macro_in_module v x m n own.macros }) p ≡ from_module v q s m n
  module_filled q s =
      let t = v.fixed.tree in
      let x = q.expected_macro_subns in
      let own = entries_at v m n in
      all (precedes s own.types) (fitting v x (from_legacy v m n)) (fitting v x own) (from_builtin t m n) (skipped_in_block_roots t m (from_extern_prelude v m n)) (fitting v x (from_macro_use v (map_of t m) n))
      (skipped_in_block_roots t m (fitting v x (from_prelude v (map_of t m) q.original_module n)))
      (legacy_macros x) (builtin_types t m n) (skipped_types t m (from_extern_prelude v m n) extern_types) (use_macros x (map_of t m))

  pub root_filled : let t = v.fixed.tree in
      let own = entries_at v (t.crate_root (t.crate_of m)) n in
      record { types = option_or own.types (skipped_in_block_roots t m (from_extern_prelude v m n)).types; values = own.values; macros = own.macros } ≡ from_crate_root v m n
  root_filled =
      let t = v.fixed.tree in
      let own = entries_at v (t.crate_root (t.crate_of m)) n in
      rw (skipped_types t m (from_extern_prelude v m n) extern_types, or_nothing own.values, or_nothing own.macros) refl
