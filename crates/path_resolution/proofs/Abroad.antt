-- A rest in another crate is asked there, and so is a path whose `super` leads into another map.
use Rattle.std.proofs.Common.{◌≡◌, ℕ, zero, suc, ◌+◌, ◌<◌, max, Bool, true, false, if◌then◌else◌, ◌||◌, List, [], ◌∷◌, is_some, Some, None, Option, sym, refl, ap, ◌∙◌, subst, arith}
use Rattle.std.proofs.lemmas.Bool.{eq-eqb}
use Rattle.std.specs.Option.{option_or, option_and_then}
use Rattle.hir_def.specs.declared.AdtId.TheVariants as adt
use Rattle.hir_def.specs.declared.BlockId.{BlockId}
use Rattle.hir_def.specs.declared.CrateId.{CrateId}
use Rattle.hir_def.specs.declared.ModuleId.{ModuleId}
use Rattle.hir_def.specs.declared.ModuleDefId.{ModuleDefId}
use Rattle.hir_def.specs.declared.ModuleDefId.TheVariants as def
use Rattle.hir_def.specs.declared.Name.{Name}
use Rattle.nameres.specs.Shapes.{Shape, Rules, block_exit}
use Rattle.path_text.specs.declared.mod_path.PathKind.TheVariants.{Super}
use Rattle.entries.specs.declared.per_ns.PerNs.{PerNs}
use Rattle.entries.specs.Entries.{of_types, of_both, kept_all}
use Rattle.entries.specs.Visibilities.{settled}
use Rattle.entries.proofs.Climbs.{exit-falls, settled_here, settled-exit}
use Rattle.entries.proofs.Visible.{crate_settled}
use Rattle.item_scope.specs.contracts.index_data.DefMapIdPartialEq.TheImpl.{eq-value as same_map}
use Rattle.item_scope.specs.declared.index_data.DefMapId.{DefMapId}
use Rattle.item_scope.specs.declared.index_data.DefMapId.TheVariants as map
use Rattle.item_scope.specs.declared.index_data.EnumVariant.{EnumVariant}
use Rattle.item_scope.specs.Views.{View, Types, entries_at}
use Rattle.path_resolution.specs.declared.answer.ReachedFixedPoint.TheVariants.{Yes}
use Rattle.path_resolution.specs.declared.answer.ResolvePathResult.{ResolvePathResult as Answer}
use Rattle.path_resolution.specs.declared.question.Question.{Question}
use Rattle.path_resolution.specs.declared.remaining_segments.Reached.{Reached}
use Rattle.path_resolution.specs.declared.single.Asked.{Asked}
use Rattle.path_resolution.specs.Answers.{no_flags, empty, larger, merged}
use Rattle.path_resolution.specs.declared.remaining_segments.Step.TheVariants.{On, Done}
use Rattle.path_resolution.specs.Elsewhere.{no_extern_prelude, no_macro_kind, asked_abroad, from_abroad, Stands, begins, leads_on, AskedElsewhere}
use Rattle.path_resolution.specs.Outward.{unasked, turn, joined_to, with_preludes, outward, outward_from}
use Rattle.path_resolution.specs.Singles.{goes_on, self_asked, super_asked, single_of, preludes_of}
use Rattle.path_resolution.specs.Starts.{start_at, map_of, climbed, super_of}
use Rattle.path_resolution.specs.Walks.{Sight, sight, foreign, unresolved, on_step, enum_step_by, def_step, type_step, step_by, walk_of}
use Rattle.path_resolution.proofs.Judged.{settled-out}
use Rattle.path_resolution.proofs.Going.{outward-turn, outward-end}

-- the same, and another crate was passed
abbrev far : Reached → Reached
far r = record { entries = r.entries; krate = r.krate; passed = record { differing_crate = true; enum_variant = r.passed.enum_variant } }

module _ (v : View) (from : ModuleId) where
  -- the rest of a walk that passed another crate, k names later
  abbrev Shifts : List Name → Type 0
  Shifts ns = (r : Reached) (i k : ℕ) → walk_of (sight v from) (far r) (i + k) ns ≡ from_abroad k (walk_of (sight v from) r i ns)

  module _ (ns : List Name) (later : Shifts ns) (i k : ℕ) (n : Name) where
    next : (r : Reached) → walk_of (sight v from) (far r) (i + k + 1) ns ≡ from_abroad k (walk_of (sight v from) r (i + 1) ns)
    next r = let e : i + k + 1 ≡ i + 1 + k = omega arith in rw e (later r (i + 1) k)

    abbrev goes : ℕ → Reached → Answer
    goes j r = walk_of (sight v from) r (j + 1) ns

    on-enum : (o : Option EnumVariant) (r : Reached) (ty : Types) → on_step (enum_step_by o (far r) ty (i + k)) (goes (i + k)) ≡ from_abroad k (on_step (enum_step_by o r ty i) (goes i))
    on-enum None r ty = refl
    on-enum (Some x) r ty = next _

    on-def : (d : ModuleDefId) (r : Reached) (ty : Types) → on_step (def_step (sight v from) (far r) ty d (i + k) n) (goes (i + k)) ≡ from_abroad k (on_step (def_step (sight v from) r ty d i n) (goes i))
    on-def (def.ModuleId m) r ty = next _
    on-def (def.AdtId (adt.EnumId e)) r ty = on-enum (v.fixed.variant e n) r ty
    on-def _ r ty = refl

    on-type : (o : Option Types) (variant : Bool) (p : PerNs) (c : CrateId) (differing : Bool)
        → let r : Reached = record { entries = p; krate = c; passed = record { differing_crate = differing; enum_variant = variant } } in
        on_step (step_by (sight v from) (far r) o (i + k) n) (goes (i + k)) ≡ from_abroad k (on_step (step_by (sight v from) r o i n) (goes i))
    on-type None variant p c differing = refl
    on-type (Some ty) true p c differing = refl
    on-type (Some ty) false p c differing = on-def ty.def _ ty

  shifts : (ns : List Name) → Shifts ns
  unfolding walk_of
  shifts [] r i k = refl
  shifts (n ∷ ns) r i k = on-type ns (shifts ns) i k n r.entries.types r.passed.enum_variant r.entries r.krate r.passed.differing_crate

  or-true : (b : Bool) → b || true ≡ true
  or-true true = refl
  or-true false = refl

  -- where a walk stands after a name of a module of its own crate
  first : ModuleId → CrateId → Name → Reached
  first m c n = record { entries = kept_all v.fixed.tree from (entries_at v m n); krate = c; passed = no_flags }

  walk-abroad : (t : Shape) → v.fixed.tree ≡ t → (rank : ModuleId → ℕ) → Rules t rank
      → (r : Reached) (it : Types) (m : ModuleId) (i : ℕ) (n : Name) (ns : List Name)
      → r.entries.types ≡ Some it → it.def ≡ def.ModuleId m → r.passed.enum_variant ≡ false → foreign v.fixed.tree r m ≡ true
      → let at = settled v.fixed.tree m in
      walk_of (sight v from) r i (n ∷ ns) ≡ from_abroad i (walk_of (sight v from) (start_at v.fixed.tree at at) 0 (n ∷ ns))
  unfolding walk_of first
  walk-abroad t tied rank ruled r it m i n ns held leads plain abroad =
      let rules : Rules v.fixed.tree rank = subst (λ (s : Shape). Rules s rank) (sym tied) ruled in
      rw (held, plain, leads, abroad, or-true r.passed.differing_crate, crate_settled v.fixed.tree rank rules m, eq-eqb (v.fixed.tree.crate_of m).0 (v.fixed.tree.crate_of m).0 refl)
      (let e : i + 1 ≡ 1 + i = omega arith in rw e (shifts ns (first (settled v.fixed.tree m) (v.fixed.tree.crate_of m) n) 1 i))

-- a walk that stands at a module has passed no enum's variant
module _ (s : Sight) where
  abbrev Plain : Reached → Type 0
  Plain r = (it : Types) (m : ModuleId) → r.entries.types ≡ Some it → it.def ≡ def.ModuleId m → r.passed.enum_variant ≡ false

  led-on : (a b : Reached) → On a ≡ On b → a ≡ b
  led-on a b e = cc

  -- the type of an enum's variant is no module
  no-module : (b : Bool) (ty : Types) (x : EnumVariant) (it : Types) (m : ModuleId)
      → (if b then of_both (def.EnumVariantId x.variant) (def.EnumVariantId x.variant) ty.vis None else of_types (def.EnumVariantId x.variant) ty.vis None).types ≡ Some it → it.def ≡ def.ModuleId m → ⊥
  no-module true ty x it m held leads = absurd (cc)
  no-module false ty x it m held leads = absurd (cc)

  by-enum : (o : Option EnumVariant) (r : Reached) (ty : Types) (i : ℕ) (there : Reached) → enum_step_by o r ty i ≡ On there → Plain there
  by-enum None r ty i there e it m held leads = absurd (cc)
  by-enum (Some x) r ty i there e it m held leads =
      absurd (no-module x.has_constructor ty x it m (subst (λ (z : Reached). z.entries.types ≡ Some it) (sym (led-on _ there e)) held) leads)

  by-def : (d : ModuleDefId) (r : Reached) (ty : Types) (i : ℕ) (n : Name) (there : Reached) → r.passed.enum_variant ≡ false → def_step s r ty d i n ≡ On there → Plain there
  by-def (def.ModuleId m) r ty i n there plain e it to held leads = sym (ap (λ (z : Reached). z.passed.enum_variant) (led-on _ there e)) ∙ plain
  by-def (def.AdtId (adt.EnumId x)) r ty i n there plain e it to held leads = by-enum (s.variant x n) r ty i there e it to held leads
  by-def _ r ty i n there plain e it to held leads = absurd (cc)

  by-flag : (b : Bool) (r : Reached) (ty : Types) → r.passed.enum_variant ≡ b → (i : ℕ) (n : Name) (there : Reached) → (if b then Done (unresolved r) else type_step s r ty i n) ≡ On there → Plain there
  by-flag true r ty v i n there e = absurd (cc)
  by-flag false r ty v i n there e = by-def ty.def r ty i n there v e

  by-type : (o : Option Types) (r : Reached) (i : ℕ) (n : Name) (there : Reached) → step_by s r o i n ≡ On there → Plain there
  by-type None r i n there e = absurd (cc)
  by-type (Some ty) r i n there e = by-flag r.passed.enum_variant r ty refl i n there e

  stands-plain : {r : Reached} → Stands s r → Plain r
  stands-plain begins it m held leads = refl
  stands-plain (leads_on {r} {next = there} before i n e) it m held leads = by-type r.entries.types r i n there e it m held leads

-- the same but for the status
record Like (a b : Answer) : Type 0 where
  defs : a.resolved_def ≡ b.resolved_def
  index : a.segment_index ≡ b.segment_index
  flags : a.prefix_info ≡ b.prefix_info

like-abroad : (i : ℕ) (a b : Answer) → Like a b → from_abroad i a ≡ from_abroad i b
like-abroad i a b l = rw (l.defs, l.index, l.flags)

or-same : {T : Type 0} (o : Option T) → option_or o o ≡ o
or-same None = refl
or-same (Some x) = refl

or-none : {T : Type 0} (o : Option T) → option_or o None ≡ o
or-none None = refl
or-none (Some x) = refl

larger-same : (o : Option ℕ) → larger o o ≡ o
larger-same None = refl
larger-same (Some x) = let e : max x x ≡ x = omega arith in ap Some e

larger-none : (o : Option ℕ) → larger o None ≡ o
larger-none None = refl
larger-none (Some x) = refl

both-same : (b : Bool) → b || b ≡ b
both-same true = refl
both-same false = refl

or-false : (b : Bool) → b || false ≡ b
or-false true = refl
or-false false = refl

-- an answer merged with the same answer, or with an empty one, stays
merged-same : (w : Answer) → Like (merged w w) w
merged-same w = record {
  defs = rw (or-same w.resolved_def.types, or-same w.resolved_def.values, or-same w.resolved_def.macros);
  index = larger-same w.segment_index;
  flags = rw (both-same w.prefix_info.differing_crate, both-same w.prefix_info.enum_variant);
}

merged-empty : (w : Answer) → Like (merged w (empty Yes)) w
merged-empty w = record {
  defs = rw (or-none w.resolved_def.types, or-none w.resolved_def.values, or-none w.resolved_def.macros);
  index = larger-none w.segment_index;
  flags = rw (or-false w.prefix_info.differing_crate, or-false w.prefix_info.enum_variant);
}

like-like : {a b c : Answer} → Like a b → Like b c → Like a c
like-like x y = record { defs = x.defs ∙ y.defs; index = x.index ∙ y.index; flags = x.flags ∙ y.flags }

like-merged : (a b w : Answer) → Like a w → Like b w → Like (merged a b) w
like-merged a b w x y = like-like both (merged-same w)
  where
    both : Like (merged a b) (merged w w)
    both = record { defs = rw (x.defs, y.defs); index = rw (x.index, y.index); flags = rw (x.flags, y.flags) }

like-empty : (a w : Answer) → Like a w → Like (merged a (empty Yes)) w
like-empty a w x = like-like (merged-empty a) x

same-map : (d : DefMapId) → same_map.it d d ≡ true
same-map (map.Block b) = eq-eqb b.0 b.0 refl
same-map (map.Crate c) = eq-eqb c.0 c.0 refl

-- a `self` path, asked in a module and outward
module _ (v : View) (rank : ModuleId → ℕ) (rules : Rules v.fixed.tree rank) (q : Question) (ns : List Name) where
  abbrev t : Shape
  t = v.fixed.tree

  -- the walk from a module
  abbrev walk : ModuleId → Answer
  walk at = walk_of (sight v q.original_module) (start_at t at at) 0 ns

  start-same : (m at : ModuleId) → t.crate_of m ≡ t.crate_of at → start_at t m at ≡ start_at t at at
  start-same m at e = rw e

  -- one module's answer is the walk's, perhaps with a surer status
  like-super : (m at : ModuleId) → t.crate_of m ≡ t.crate_of at → Like (super_asked v q.original_module ns m (Some at)) (walk at)
  like-super m at e = by-map (same_map.it (map_of t at) (map_of t m))
    where
      all : (a : Answer) → Like a a
      all a = record { defs = refl; index = refl; flags = refl }

      by-block : (b : Bool) → Like (if b then merged (walk at) (empty Yes) else walk at) (walk at)
      by-block true = merged-empty (walk at)
      by-block false = all (walk at)

      by-map : (b : Bool) → Like (if b then walk_of (sight v q.original_module) (start_at t m at) 0 ns else self_asked v q.original_module ns at) (walk at)
      by-map true = subst (λ (r : Reached). Like (walk_of (sight v q.original_module) r 0 ns) (walk at)) (sym (start-same m at e)) (all (walk at))
      by-map false = by-block (is_some (t.block_of at))

  like-single : (m : ModuleId) → Like (single_of v q (Super 0) ns m).answer (walk (settled t m))
  unfolding single_of climbed
  like-single m = like-super m (settled t m) (sym (crate_settled t rank rules m))

  -- what is asked outward of a `self` path adds nothing
  abbrev Ready : Asked → Answer → Type 0
  Ready a w = (s : Answer) → Like s w → Like (merged a.answer s) w

  turned : (a : Asked) (m : ModuleId) → a.is_final ≡ false → Ready a (walk (settled t m)) → Like (turn v q (Super 0) ns a m).answer (walk (settled t m))
  turned a m e ready =
      subst (λ (b : Bool). Like (if b then a else joined_to a (single_of v q (Super 0) ns m)).answer (walk (settled t m))) (sym e)
      (ready (single_of v q (Super 0) ns m).answer (like-single m))

  goes-on : (a : Asked) (m : ModuleId) → a.is_final ≡ false → (turn v q (Super 0) ns a m).is_final ≡ false
  unfolding single_of
  goes-on a m e = rw e

  like-last : (b : Option BlockId) (a : Asked) (w : Answer) → a.is_final ≡ false → Like a.answer w → Like (with_preludes v q (Super 0) ns b a) w
  unfolding preludes_of
  like-last None a w e l = l
  like-last (Some b) a w e l =
      subst (λ (f : Bool). Like (if f then a.answer else merged a.answer (empty Yes)) w) (sym e) (like-empty a.answer w l)

  like-outward : (n : ℕ) (m : ModuleId) (a : Asked) → rank m < n → a.is_final ≡ false → Ready a (walk (settled t m)) → Like (outward_from v q (Super 0) ns a m) (walk (settled t m))
  like-outward zero m a h e ready = absurd (omega arith)
  like-outward (suc n) m a h e ready = by-exit (block_exit t m) refl (like-outward n)
    where
      b : Asked
      b = turn v q (Super 0) ns a m

      by-exit : (o : Option ModuleId) → o ≡ block_exit t m
          → ((y : ModuleId) (c : Asked) → rank y < n → c.is_final ≡ false → Ready c (walk (settled t y)) → Like (outward_from v q (Super 0) ns c y) (walk (settled t y)))
          → Like (outward_from v q (Super 0) ns a m) (walk (settled t m))
      by-exit None x ih =
          subst (λ (y : Answer). Like y (walk (settled t m))) (outward-end v t refl q (Super 0) ns m a b refl x)
          (like-last (t.block_of m) b (walk (settled t m)) (goes-on a m e) (turned a m e ready))
      by-exit (Some p) x ih =
          let l : rank p < rank m = (exit-falls t rank rules m p x).0 in
          let below : rank p < n = omega arith in
          let s : settled t p ≡ settled t m = settled-exit t rank rules m p x in
          let again : Ready b (walk (settled t p)) =
          subst (λ (y : ModuleId). Ready b (walk y)) (sym s) (λ (c : Answer). λ (k : Like c (walk (settled t m))). like-merged b.answer c (walk (settled t m)) (turned a m e ready) k) in
          subst (λ (y : Answer). Like y (walk (settled t m))) (outward-turn v t refl q (Super 0) ns m a b refl rank p rules x)
          (subst (λ (y : ModuleId). Like (outward_from v q (Super 0) ns b p) (walk y)) s (ih p b below (goes-on a m e) again))

  like-self : (m : ModuleId) → Like (outward v q (Super 0) ns m) (walk (settled t m))
  like-self m = like-outward (suc (rank m)) m unasked (omega arith) refl (λ (c : Answer). λ (k : Like c (walk (settled t m))). record { defs = k.defs; index = k.index; flags = k.flags })

  -- `super` leads to modules that are no block roots
  climbed-inner : (n : ℕ) (m found : ModuleId) → None ≡ block_exit t m → climbed t n m ≡ Some found → None ≡ block_exit t found
  unfolding climbed
  climbed-inner zero m found h e = let s : m ≡ found = cc in subst (λ (x : ModuleId). None ≡ block_exit t x) s h
  climbed-inner (suc n) m found h e = by-parent (t.parent_of m) refl (λ x. climbed-inner n (settled t x) found (settled-out t rank rules x))
    where
      by-parent : (o : Option ModuleId) → t.parent_of m ≡ o → ((x : ModuleId) → climbed t n (settled t x) ≡ Some found → None ≡ block_exit t found) → None ≡ block_exit t found
      by-parent None p ih = absurd (let f : None ≡ Some found = sym (ap (option_and_then (λ x. climbed t n (settled t x))) p) ∙ e in let z : ◌≡◌ {A = ℕ} 0 1 = cc in omega arith)
      by-parent (Some x) p ih = ih x (sym (ap (option_and_then (λ y. climbed t n (settled t y))) p) ∙ e)

  -- a `self` path asked in such a module
  self-there : (found : ModuleId) → None ≡ block_exit t found → outward v q (Super 0) ns found ≡ self_asked v q.original_module ns found
  unfolding single_of preludes_of climbed
  self-there found inner =
      let s : settled t found ≡ found = settled_here t found inner in
      sym (outward-end v t refl q (Super 0) ns found unasked (turn v q (Super 0) ns unasked found) refl inner) ∙ rw (s, same-map (map_of t found)) (by-block (t.block_of found))
    where
      by-block : (b : Option BlockId) → with_preludes v q (Super 0) ns b (goes_on (walk found)) ≡ (if is_some b then merged (walk found) (empty Yes) else walk found)
      by-block None = refl
      by-block (Some b) = refl

module _ (v : View) (t : Shape) (rank : ModuleId → ℕ) (q : Question) (ns : List Name) (tied : v.fixed.tree ≡ t) (ruled : Rules t rank) where
  rules-of : Rules v.fixed.tree rank
  rules-of = subst (λ (s : Shape). Rules s rank) (sym tied) ruled

  abroad : (r : Reached) (it : Types) (m : ModuleId) (i : ℕ) (n : Name) (rest : List Name)
      → r.entries.types ≡ Some it → it.def ≡ def.ModuleId m → r.passed.enum_variant ≡ false → foreign v.fixed.tree r m ≡ true
      → walk_of (sight v q.original_module) r i (n ∷ rest) ≡ from_abroad i (asked_abroad v q (n ∷ rest) m)
  abroad r it m i n rest held leads plain far =
      walk-abroad v q.original_module t tied rank ruled r it m i n rest held leads plain far
      ∙ sym (like-abroad i _ _ (like-self (no_extern_prelude v) rank rules-of (no_macro_kind q) (n ∷ rest) m))

  outside : (level : ℕ) (m found : ModuleId)
      → super_of v.fixed.tree level m ≡ Some found → same_map.it (map_of v.fixed.tree found) (map_of v.fixed.tree m) ≡ false
      → (single_of v q (Super level) ns m).answer ≡ outward v q (Super 0) ns found
  unfolding single_of
  outside level m found e other =
      rw (e, other)
      (sym (self-there v rank rules-of q ns found (climbed-inner v rank rules-of q ns level (settled v.fixed.tree m) found (settled-out v.fixed.tree rank rules-of m) e)))

  pub asked-elsewhere : AskedElsewhere v q ns
  asked-elsewhere = record { abroad = abroad; plain = λ r it m stands. stands-plain (sight v q.original_module) stands it m; outside = outside }
