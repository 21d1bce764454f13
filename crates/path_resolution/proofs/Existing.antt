-- What an answer names exists, in an index that tells only what exists.
use Rattle.std.proofs.Common.{◌≡◌, ℕ, zero, suc, ◌+◌, ◌<◌, Bool, true, false, if◌then◌else◌, not, ◌&&◌, nat_le, nat_lt, List, [], ◌∷◌, length, is_some, Some, None, Option, refl, sym, ap, ◌∙◌, subst, lt-ltb, ltb-true, leb-false}
use Rattle.std.proofs.lemmas.Bool.{and_parts, and_from}
use Rattle.std.proofs.lemmas.Option.{none-some}
use Rattle.std.specs.List.{fold}
use Rattle.std.specs.Option.{option_or, option_map, option_map_or, option_and_then}
use Rattle.hir_def.specs.declared.AdtId.TheVariants as adt
use Rattle.hir_def.specs.declared.BlockId.{BlockId}
use Rattle.hir_def.specs.declared.CrateId.{CrateId}
use Rattle.hir_def.specs.declared.MacroId.{MacroId}
use Rattle.hir_def.specs.declared.ModuleId.{ModuleId}
use Rattle.hir_def.specs.declared.ModuleDefId.{ModuleDefId}
use Rattle.hir_def.specs.declared.ModuleDefId.TheVariants as def
use Rattle.hir_def.specs.declared.Name.{Name}
use Rattle.hir_def.specs.declared.builtin_type.BuiltinType.{BuiltinType}
use Rattle.hir_def.specs.declared.fault.PathFault.{PathFault}
use Rattle.hir_def.specs.declared.fault.PathFault.TheVariants.{NoModule, TooManyNames, TooManySupers, NoCrate, NoName}
use Rattle.hir_def.specs.declared.import.ImportOrExternCrate.TheVariants.{ExternCrate}
use Rattle.hir_def.specs.Builtins.{type_at}
use Rattle.nameres.specs.Shapes.{Shape, Rules, ModuleIn, CrateIn, block_exit, exit_of}
use Rattle.path_text.specs.declared.mod_path.PathKind.{PathKind}
use Rattle.path_text.specs.declared.mod_path.PathKind.TheVariants.{Plain, Super, Crate, Abs, DollarCrate}
use Rattle.entries.specs.declared.per_ns.Item.{Item}
use Rattle.entries.specs.declared.per_ns.PerNs.{PerNs}
use Rattle.entries.specs.declared.visibility.Visibility.TheVariants.{Public}
use Rattle.entries.specs.Entries.{nothing, is_nothing, of_types, of_macros, or_else, kept, kept_all}
use Rattle.entries.specs.Visibilities.{visible, named, chain, chain_of, last_of, settled}
use Rattle.item_scope.specs.contracts.index_data.DefMapIdPartialEq.TheImpl.{eq-value as same_map}
use Rattle.item_scope.specs.declared.index_data.DefMapId.{DefMapId}
use Rattle.item_scope.specs.declared.index_data.EnumVariant.{EnumVariant}
use Rattle.item_scope.specs.declared.index_data.ExternPrelude.{ExternPrelude}
use Rattle.item_scope.specs.declared.index_data.MacroUse.{MacroUse}
use Rattle.item_scope.specs.declared.place.Place.{Place}
use Rattle.item_scope.specs.declared.place.Place.TheVariants.{Empty, ByGlob, ByName}
use Rattle.item_scope.specs.IndexData.{IndexData, def_in, macro_in, item_in}
use Rattle.item_scope.specs.Places.{holder}
use Rattle.item_scope.specs.Views.{View, Types, Macros, Sound, place_in, entries_at}
use Rattle.path_resolution.specs.declared.answer.ReachedFixedPoint.TheVariants.{Yes}
use Rattle.path_resolution.specs.declared.answer.ResolvePathResult.{ResolvePathResult as Answer}
use Rattle.path_resolution.specs.declared.question.BuiltinShadowMode.{BuiltinShadowMode}
use Rattle.path_resolution.specs.declared.question.MacroSubNs.{MacroSubNs}
use Rattle.path_resolution.specs.declared.question.Question.{Question}
use Rattle.path_resolution.specs.declared.remaining_segments.Reached.{Reached}
use Rattle.path_resolution.specs.declared.remaining_segments.Step.TheVariants.{Done}
use Rattle.path_resolution.specs.declared.single.Asked.{Asked}
use Rattle.path_resolution.specs.Answers.{empty, merged}
use Rattle.path_resolution.specs.Existing.{Exists, AllExist, AnswerExists}
use Rattle.path_resolution.specs.Outward.{unasked, turn, joined_to, with_preludes, outward, outward_from}
use Rattle.path_resolution.specs.Questions.{level_of, known_crate, first_unknown, refusal_of}
use Rattle.path_resolution.specs.Singles.{as_2015, shadow_of, present, first_by, first_of, preludes_by, preludes_first, named_by, single_named, self_asked, super_asked, single_of, preludes_of}
use Rattle.path_resolution.specs.Sources.{fits, macro_fitting, fitting, from_legacy, from_builtin, from_extern_prelude, from_macro_use, from_prelude, from_preludes, from_module, from_crate_root, builtin_first, is_block_root}
use Rattle.path_resolution.specs.Starts.{begun, start_at, map_of, climbed, super_of}
use Rattle.path_resolution.specs.Walks.{sight, variant_of, unresolved, enum_step_by, def_step, type_step, step_by, on_step, walk_of}

exist-none : (f : IndexData) → AllExist f nothing
exist-none f = record { types = tt; values = tt; macros = tt }

exist-first : {D M : Type 0} (g : IndexData → D → Bool) (f : IndexData) (a b : Option (Item D M)) → Exists g f a → Exists g f b → Exists g f (option_or a b)
exist-first g f None b x y = y
exist-first g f (Some it) b x y = x

exist-or : (f : IndexData) (p q : PerNs) → AllExist f p → AllExist f q → AllExist f (or_else p q)
exist-or f p q x y = record {
  types = exist-first def_in f p.types q.types x.types y.types;
  values = exist-first def_in f p.values q.values x.values y.values;
  macros = exist-first macro_in f p.macros q.macros x.macros y.macros;
}

exist-if : (f : IndexData) (b : Bool) (p q : PerNs) → AllExist f p → AllExist f q → AllExist f (if b then p else q)
exist-if f true p q x y = x
exist-if f false p q x y = y

exist-kept : {D M : Type 0} (g : IndexData → D → Bool) (f : IndexData) (t : Shape) (judge : ModuleId) (o : Option (Item D M)) → Exists g f o → Exists g f (kept t judge o)
exist-kept g f t judge None x = tt
exist-kept {D} {M} g f t judge (Some it) x = by-sight (visible t judge it.vis)
  where
    by-sight : (b : Bool) → Exists g f (if b then Some it else None)
    by-sight true = x
    by-sight false = tt

exist-kept_all : (f : IndexData) (t : Shape) (judge : ModuleId) (p : PerNs) → AllExist f p → AllExist f (kept_all t judge p)
exist-kept_all f t judge p x = record {
  types = exist-kept def_in f t judge p.types x.types;
  values = exist-kept def_in f t judge p.values x.values;
  macros = exist-kept macro_in f t judge p.macros x.macros;
}

exist-held : {D M : Type 0} (g : IndexData → D → Bool) (f : IndexData) (glob : Item D M → Bool) (p : Place (Item D M)) → place_in (item_in g f) glob p ≡ true → Exists g f (holder p)
exist-held g f glob Empty e = tt
exist-held g f glob (ByGlob it) e = (and_parts (item_in g f it) (glob it) e).0
exist-held g f glob (ByName it) e = (and_parts (item_in g f it) (not (glob it)) e).0

exist-module : (f : IndexData) (m : ModuleId) → ModuleIn f.tree m → item_in {M = ℕ} def_in f (record { def = def.ModuleId m; vis = Public; import = None }) ≡ true
exist-module f m h = and_from (nat_lt m.0 f.tree.modules) true (lt-ltb m.0 f.tree.modules h) refl

exist-variant : (f : IndexData) (ty : Types) (x : EnumVariant) → item_in def_in f ty ≡ true → AllExist f (variant_of ty x)
exist-variant f ty x e = by-constructor x.has_constructor
  where
    vis : named f.tree ty.vis ≡ true
    vis = (and_parts (def_in f ty.def) (named f.tree ty.vis) e).1

    by-constructor : (b : Bool) → AllExist f (variant_of ty (record { variant = x.variant; has_constructor = b }))
    by-constructor true = record { types = vis; values = vis; macros = tt }
    by-constructor false = record { types = vis; values = tt; macros = tt }

module _ (v : View) (sound : Sound v) where
  exist-places : (m : ModuleId) (n : Name) → AllExist v.fixed (entries_at v m n)
  exist-places m n = record {
    types = exist-held def_in v.fixed _ (v.types m n) (sound.types.holders m n);
    values = exist-held def_in v.fixed _ (v.values m n) (sound.values.holders m n);
    macros = exist-held macro_in v.fixed _ (v.macros m n) (sound.macros.holders m n);
  }

  abbrev Later : ModuleId → List Name → Type 0
  Later judge ns = (r : Reached) (i : ℕ) → AllExist v.fixed r.entries → AllExist v.fixed (walk_of (sight v judge) r i ns).resolved_def

  module _ (judge : ModuleId) (ns : List Name) (later : Later judge ns) (r : Reached) (i : ℕ) (n : Name) where
    abbrev goes : Reached → Answer
    goes next = walk_of (sight v judge) next (i + 1) ns

    on-enum : (o : Option EnumVariant) (ty : Types) → item_in def_in v.fixed ty ≡ true → AllExist v.fixed (on_step (enum_step_by o r ty i) goes).resolved_def
    on-enum None ty s = record { types = s; values = tt; macros = tt }
    on-enum (Some x) ty s = later _ (i + 1) (exist-variant v.fixed ty x s)

    on-def : (d : ModuleDefId) (ty : Types) → item_in def_in v.fixed ty ≡ true → AllExist v.fixed (on_step (def_step (sight v judge) r ty d i n) goes).resolved_def
    on-def (def.ModuleId m) ty s = later _ (i + 1) (exist-kept_all v.fixed v.fixed.tree judge _ (exist-places _ n))
    on-def (def.AdtId (adt.EnumId e)) ty s = on-enum (v.fixed.variant e n) ty s
    on-def _ ty s = record { types = s; values = tt; macros = tt }

    on-variant : (b : Bool) (ty : Types) → item_in def_in v.fixed ty ≡ true
        → AllExist v.fixed (on_step (if b then Done (unresolved r) else type_step (sight v judge) r ty i n) goes).resolved_def
    on-variant true ty s = exist-none v.fixed
    on-variant false ty s = on-def ty.def ty s

    on-type : (o : Option Types) → Exists def_in v.fixed o → AllExist v.fixed (on_step (step_by (sight v judge) r o i n) goes).resolved_def
    on-type None s = exist-none v.fixed
    on-type (Some ty) s = on-variant r.passed.enum_variant ty s

  walk-exists : (judge : ModuleId) (ns : List Name) → Later judge ns
  unfolding walk_of
  walk-exists judge [] r i h = h
  walk-exists judge (n ∷ ns) r i h = on-type judge ns (walk-exists judge ns) r i n r.entries.types h.types

  -- from a module that exists
  walk-from : (judge : ModuleId) (ns : List Name) (m start : ModuleId) → ModuleIn v.fixed.tree start → AllExist v.fixed (walk_of (sight v judge) (start_at v.fixed.tree m start) 0 ns).resolved_def
  walk-from judge ns m start h = walk-exists judge ns (start_at v.fixed.tree m start) 0 (record { types = exist-module v.fixed start h; values = tt; macros = tt })

  -- the sources
  exist-fitting : (x : Option MacroSubNs) (p : PerNs) → AllExist v.fixed p → AllExist v.fixed (fitting v x p)
  exist-fitting x p h = record { types = h.types; values = h.values; macros = by-macro p.macros h.macros }
    where
      by-fit : (b : Bool) (it : Macros) → Exists macro_in v.fixed (Some it) → Exists macro_in v.fixed (if b then Some it else None)
      by-fit true it e = e
      by-fit false it e = tt

      by-macro : (o : Option Macros) → Exists macro_in v.fixed o → Exists macro_in v.fixed (macro_fitting v x o)
      by-macro None e = tt
      by-macro (Some it) e = by-fit (fits v x it.def) it e

  exist-macro : (d : MacroId) → d.0 < v.fixed.macro_count → macro_in v.fixed d && true ≡ true
  exist-macro d h = and_from (nat_lt d.0 v.fixed.macro_count) true (lt-ltb d.0 v.fixed.macro_count h) refl

  exist-legacy : (m : ModuleId) (n : Name) → AllExist v.fixed (from_legacy v m n)
  exist-legacy m n = by-row (v.fixed.legacy m n) refl
    where
      by-row : (o : Option MacroId) → v.fixed.legacy m n ≡ o → AllExist v.fixed (option_map_or (λ d. of_macros d Public None) o nothing)
      by-row None e = exist-none v.fixed
      by-row (Some d) e = record { types = tt; values = tt; macros = exist-macro d (sound.fixed.legacy m n d e).2 }

  exist-builtin : (m : ModuleId) (n : Name) → AllExist v.fixed (from_builtin v.fixed.tree m n)
  exist-builtin m n = exist-if v.fixed (is_some (v.fixed.tree.block_of m)) nothing _ (exist-none v.fixed) (by-type (type_at n))
    where
      by-type : (o : Option BuiltinType) → AllExist v.fixed (option_map_or (λ b. of_types (def.BuiltinType b) Public None) o nothing)
      by-type None = exist-none v.fixed
      by-type (Some b) = record { types = refl; values = tt; macros = tt }

  exist-extern : (m : ModuleId) (n : Name) → AllExist v.fixed (from_extern_prelude v m n)
  exist-extern m n = by-row (v.fixed.extern_prelude (v.fixed.tree.crate_of m) n) refl
    where
      by-row : (o : Option ExternPrelude) → v.fixed.extern_prelude (v.fixed.tree.crate_of m) n ≡ o
          → AllExist v.fixed (option_map_or (λ e. of_types (def.ModuleId e.module) Public (option_map ExternCrate e.extern_crate)) o nothing)
      by-row None e = exist-none v.fixed
      by-row (Some x) e = record { types = exist-module v.fixed x.«module» (sound.fixed.extern_prelude (v.fixed.tree.crate_of m) n x e).2; values = tt; macros = tt }

  exist-macro-use : (d : DefMapId) (n : Name) → AllExist v.fixed (from_macro_use v d n)
  exist-macro-use d n = by-row (v.fixed.macro_use d n) refl
    where
      by-row : (o : Option MacroUse) → v.fixed.macro_use d n ≡ o → AllExist v.fixed (option_map_or (λ u. of_macros u.def Public (option_map ExternCrate u.extern_crate)) o nothing)
      by-row None e = exist-none v.fixed
      by-row (Some u) e = record { types = tt; values = tt; macros = exist-macro u.def (sound.fixed.macro_use d n u e).2 }

  exist-prelude : (d : DefMapId) (judge : ModuleId) (n : Name) → AllExist v.fixed (from_prelude v d judge n)
  exist-prelude d judge n = by-row (v.fixed.prelude d)
    where
      by-row : (o : Option ModuleId) → AllExist v.fixed (option_map_or (λ p. kept_all v.fixed.tree judge (entries_at v p n)) o nothing)
      by-row None = exist-none v.fixed
      by-row (Some p) = exist-kept_all v.fixed v.fixed.tree judge _ (exist-places p n)

  exist-preludes : (x : Option MacroSubNs) (m : ModuleId) (n : Name) → AllExist v.fixed (from_preludes v x m n)
  exist-preludes x m n =
      exist-or v.fixed _ _ (exist-or v.fixed _ _ (exist-or v.fixed _ _ (exist-none v.fixed) (exist-extern m n)) (exist-fitting x _ (exist-macro-use _ n)))
      (exist-fitting x _ (exist-prelude _ m n))

  exist-module_sources : (q : Question) (s : BuiltinShadowMode) (m : ModuleId) (n : Name) → AllExist v.fixed (from_module v q s m n)
  exist-module_sources q s m n =
      let x = q.expected_macro_subns in
      let own : AllExist v.fixed (fitting v x (entries_at v m n)) = exist-fitting x _ (exist-places m n) in
      let first : Bool = builtin_first s (fitting v x (entries_at v m n)) in
      let a : AllExist v.fixed (fitting v x (from_legacy v m n)) = exist-fitting x _ (exist-legacy m n) in
      exist-or v.fixed _ _
      (exist-or v.fixed _ _
      (exist-or v.fixed _ _
      (exist-or v.fixed _ _
      (exist-or v.fixed _ _ (exist-or v.fixed _ _ (exist-none v.fixed) a) (exist-if v.fixed first _ _ (exist-builtin m n) own))
      (exist-if v.fixed first _ _ own (exist-builtin m n)))
      (exist-if v.fixed (is_block_root v.fixed.tree m) _ _ (exist-none v.fixed) (exist-extern m n)))
      (exist-fitting x _ (exist-macro-use _ n)))
      (exist-if v.fixed (is_block_root v.fixed.tree m) _ _ (exist-none v.fixed) (exist-fitting x _ (exist-prelude _ q.original_module n)))

  exist-root : (m : ModuleId) (n : Name) → AllExist v.fixed (from_crate_root v m n)
  exist-root m n =
      exist-or v.fixed _ _ (exist-places _ n) (exist-if v.fixed (is_block_root v.fixed.tree m) _ _ (exist-none v.fixed) (exist-extern m n))

  -- a first name, or none
  abbrev FirstExists : Option PerNs → Type 0
  FirstExists None = Unit {0}
  FirstExists (Some p) = AllExist v.fixed p

  exist-present : (p : PerNs) → AllExist v.fixed p → FirstExists (present p)
  exist-present p h = by-none (is_nothing p)
    where
      by-none : (b : Bool) → FirstExists (if b then None else Some p)
      by-none true = tt
      by-none false = h

  first-if : (b : Bool) (x y : Option PerNs) → FirstExists x → FirstExists y → FirstExists (if b then x else y)
  first-if true x y a b = a
  first-if false x y a b = b

  exist-first_of : (q : Question) (k : PathKind) (m : ModuleId) (n : Name) (ns : List Name) → FirstExists (first_of v q k m n ns)
  exist-first_of q k m n ns = first-if (as_2015 v q k m) _ _ (exist-root m n) (by-kind k)
    where
      by-kind : (k : PathKind) → FirstExists (first_by k v q m n ns)
      by-kind Abs = exist-present (from_extern_prelude v m n) (exist-extern m n)
      by-kind Plain = exist-module_sources q (shadow_of q.shadow ns) m n
      by-kind Crate = exist-module_sources q (shadow_of q.shadow ns) m n
      by-kind (Super level) = exist-module_sources q (shadow_of q.shadow ns) m n
      by-kind (DollarCrate c) = exist-module_sources q (shadow_of q.shadow ns) m n

  exist-preludes_first : (q : Question) (k : PathKind) (m : ModuleId) (n : Name) → FirstExists (preludes_first v q k m n)
  exist-preludes_first q k m n = first-if (as_2015 v q k m) _ _ (exist-extern m n) (by-kind k)
    where
      by-kind : (k : PathKind) → FirstExists (preludes_by k v q m n)
      by-kind Abs = exist-present (from_extern_prelude v m n) (exist-extern m n)
      by-kind Plain = exist-preludes q.expected_macro_subns m n
      by-kind Crate = exist-preludes q.expected_macro_subns m n
      by-kind (Super level) = exist-preludes q.expected_macro_subns m n
      by-kind (DollarCrate c) = exist-preludes q.expected_macro_subns m n

  exist-named : (judge m : ModuleId) (o : Option PerNs) (ns : List Name) → FirstExists o → AllExist v.fixed (named_by v judge m o ns).resolved_def
  exist-named judge m None ns h = exist-none v.fixed
  exist-named judge m (Some p) ns h = walk-exists judge ns (begun v.fixed.tree m p) 1 h

-- modules that are reached exist
module _ (t : Shape) (rank : ModuleId → ℕ) (r : Rules t rank) where
  exit-in : (m p : ModuleId) (q : Option ModuleId) (b : Option BlockId) → t.block_of m ≡ b → exit_of t q b ≡ Some p → ModuleIn t p
  exit-in m p (Some q) b e f = absurd (none-some p f)
  exit-in m p None None e f = absurd (none-some p f)
  exit-in m p None (Some b) e f = let s : t.outside_of b ≡ p = cc in subst (ModuleIn t) s (r.outside b (r.block m b e)).exists

  last-in : (n : ℕ) (m : ModuleId) (o : Option ModuleId) → ModuleIn t m → ((p : ModuleId) → o ≡ Some p → ModuleIn t p) → ModuleIn t (last_of m (chain (block_exit t) o n))
  last-in n m None h k = h
  last-in zero m (Some p) h k = h
  last-in (suc n) m (Some p) h k = last-in n p (block_exit t p) (k p refl) (λ x e. exit-in p x (t.parent_of p) (t.block_of p) refl e)

  settled-in : (m : ModuleId) → ModuleIn t m → ModuleIn t (settled t m)
  unfolding settled chain_of
  settled-in m h = last-in t.modules m (block_exit t m) h (λ x e. exit-in m x (t.parent_of m) (t.block_of m) refl e)

  climbed-in : (n : ℕ) (m found : ModuleId) → ModuleIn t m → climbed t n m ≡ Some found → ModuleIn t found
  unfolding climbed
  climbed-in zero m found h e = let s : m ≡ found = cc in subst (ModuleIn t) s h
  climbed-in (suc n) m found h e = by-parent (t.parent_of m) refl (λ x i. climbed-in n (settled t x) found i)
    where
      by-parent : (o : Option ModuleId) → t.parent_of m ≡ o → ((x : ModuleId) → ModuleIn t (settled t x) → climbed t n (settled t x) ≡ Some found → ModuleIn t found) → ModuleIn t found
      by-parent None p ih = absurd (none-some found (sym (ap (option_and_then (λ x. climbed t n (settled t x))) p) ∙ e))
      by-parent (Some x) p ih = ih x (settled-in x (r.parent m x p).exists) (sym (ap (option_and_then (λ y. climbed t n (settled t y))) p) ∙ e)

  root-in : (c : CrateId) → CrateIn t c → ModuleIn t (t.crate_root c)
  root-in c h = ((r.crate-root c h (t.crate_root c)).1 refl).exists

module _ (v : View) (sound : Sound v) (rank : ModuleId → ℕ) (r : Rules v.fixed.tree rank) (q : Question) (ns : List Name) where
  abbrev t : Shape
  t = v.fixed.tree

  abbrev judge : ModuleId
  judge = q.original_module

  abbrev Fine : Answer → Type 0
  Fine a = AllExist v.fixed a.resolved_def

  super-exists : (m : ModuleId) (o : Option ModuleId) → ((p : ModuleId) → o ≡ Some p → ModuleIn t p) → Fine (super_asked v judge ns m o)
  super-exists m None h = exist-none v.fixed
  super-exists m (Some at) h = by-map (same_map.it (map_of t at) (map_of t m))
    where
      by-block : (b : Bool) → let a = walk_of (sight v judge) (start_at t at at) 0 ns in Fine (if b then merged a (empty Yes) else a)
      by-block true = exist-or v.fixed _ _ (walk-from v sound judge ns at at (h at refl)) (exist-none v.fixed)
      by-block false = walk-from v sound judge ns at at (h at refl)

      by-map : (b : Bool) → Fine (if b then walk_of (sight v judge) (start_at t m at) 0 ns else self_asked v judge ns at)
      by-map true = walk-from v sound judge ns m at (h at refl)
      by-map false = by-block (is_some (t.block_of at))

  named-exists : (k : PathKind) (ns : List Name) (m : ModuleId) → Fine (single_named v q k ns m).answer
  named-exists k [] m = exist-none v.fixed
  named-exists k (n ∷ ns) m = exist-named v sound judge m _ ns (exist-first_of v sound q k m n ns)

  single-exists : (k : PathKind) (m : ModuleId) → ModuleIn t m → known_crate v k ≡ true → Fine (single_of v q k ns m).answer
  unfolding single_of
  single-exists Plain m h c = named-exists Plain ns m
  single-exists Abs m h c = named-exists Abs ns m
  single-exists Crate m h c = walk-from v sound judge ns m _ (root-in t rank r (t.crate_of m) (r.crate m h))
  single-exists (DollarCrate d) m h c = walk-from v sound judge ns m _ (root-in t rank r d (ltb-true d.0 t.crates c))
  single-exists (Super level) m h c = super-exists m (super_of t level m) (λ p e. climbed-in t rank r level (settled t m) p (settled-in t rank r m h) e)

  preludes-exist : (k : PathKind) (ns : List Name) (m : ModuleId) → Fine (preludes_of v q k ns m)
  unfolding preludes_of
  preludes-exist Plain [] m = exist-none v.fixed
  preludes-exist Plain (n ∷ ns) m = exist-named v sound m m _ ns (exist-preludes_first v sound q Plain m n)
  preludes-exist Abs [] m = exist-none v.fixed
  preludes-exist Abs (n ∷ ns) m = exist-named v sound m m _ ns (exist-preludes_first v sound q Abs m n)
  preludes-exist Crate ns m = exist-none v.fixed
  preludes-exist (DollarCrate d) ns m = exist-none v.fixed
  preludes-exist (Super level) ns m = exist-none v.fixed

  module _ (k : PathKind) (known : known_crate v k ≡ true) where
    turn-exists : (a : Asked) (m : ModuleId) → ModuleIn t m → Fine a.answer → Fine (turn v q k ns a m).answer
    turn-exists a m i h = by-final a.is_final
      where
        by-final : (b : Bool) → Fine (if b then a else joined_to a (single_of v q k ns m)).answer
        by-final true = h
        by-final false = exist-or v.fixed _ _ h (single-exists k m i known)

    turns-exist : (n : ℕ) (o : Option ModuleId) (a : Asked) → ((p : ModuleId) → o ≡ Some p → ModuleIn t p) → Fine a.answer → Fine (fold (turn v q k ns) a (chain (block_exit t) o n)).answer
    turns-exist n None a i h = h
    turns-exist zero (Some m) a i h = h
    turns-exist (suc n) (Some m) a i h =
        turns-exist n (block_exit t m) (turn v q k ns a m) (λ x e. exit-in t rank r m x (t.parent_of m) (t.block_of m) refl e) (turn-exists a m (i m refl) h)

    last-exists : (b : Option BlockId) (a : Asked) → Fine a.answer → Fine (with_preludes v q k ns b a)
    last-exists None a h = h
    last-exists (Some b) a h = by-final a.is_final
      where
        by-final : (f : Bool) → Fine (if f then a.answer else merged a.answer (preludes_of v q k ns (t.block_root b)))
        by-final true = h
        by-final false = exist-or v.fixed _ _ h (preludes-exist k ns (t.block_root b))

    outward-exists : ModuleIn t judge → AnswerExists v (outward v q k ns judge)
    unfolding outward_from chain_of
    outward-exists h =
        last-exists (t.block_of (settled t judge)) _
        (turns-exist (suc t.modules) (Some judge) unasked (λ p e. let s : judge ≡ p = cc in subst (ModuleIn t) s h) (exist-none v.fixed))

-- what was not refused
unrefused : (a b c d : Bool) (o : Option PathFault)
    → None ≡ (if a then Some NoModule else if b then Some TooManyNames else if c then Some TooManySupers else if d then o else Some NoCrate) → (a ≡ false) × (d ≡ true)
unrefused true b c d o e = absurd (none-some NoModule e)
unrefused false true c d o e = absurd (none-some TooManyNames e)
unrefused false false true d o e = absurd (none-some TooManySupers e)
unrefused false false false true o e = (refl, refl)
unrefused false false false false o e = absurd (none-some NoCrate e)

pub answer-exists : (v : View) (t : Shape) (rank : ModuleId → ℕ) (q : Question) (k : PathKind) (ns : List Name)
    → v.fixed.tree ≡ t → Rules t rank → Sound v → None ≡ refusal_of v q k ns → AnswerExists v (outward v q k ns q.original_module)
answer-exists v t rank q k ns tied ruled sound passed =
    let r : Rules v.fixed.tree rank = subst (λ (s : Shape). Rules s rank) (sym tied) ruled in
    let m = q.original_module in
    let u = unrefused (nat_le v.fixed.tree.modules m.0) (nat_lt 64 (length ns)) (nat_lt 255 (level_of k)) (known_crate v k) (option_map NoName (first_unknown v ns)) passed in
    outward-exists v sound rank r q ns k u.1 (leb-false v.fixed.tree.modules m.0 u.0)
