-- Paths that name their start show only what the judge may see.
use Rattle.std.proofs.Common.{◌≡◌, ℕ, ◌+◌, Bool, true, false, if◌then◌else◌, List, [], ◌∷◌, is_some, Some, None, Option, refl, sym, subst}
use Rattle.std.proofs.lemmas.Bool.{false≢true}
use Rattle.std.specs.List.{fold}
use Rattle.std.specs.Option.{option_or}
use Rattle.hir_def.specs.declared.AdtId.TheVariants as adt
use Rattle.hir_def.specs.declared.BlockId.{BlockId}
use Rattle.hir_def.specs.declared.ModuleId.{ModuleId}
use Rattle.hir_def.specs.declared.ModuleDefId.{ModuleDefId}
use Rattle.hir_def.specs.declared.ModuleDefId.TheVariants as def
use Rattle.hir_def.specs.declared.Name.{Name}
use Rattle.nameres.specs.Shapes.{Shape, Rules, block_exit}
use Rattle.path_text.specs.declared.mod_path.PathKind.{PathKind}
use Rattle.path_text.specs.declared.mod_path.PathKind.TheVariants.{Plain, Super, Crate, Abs, DollarCrate}
use Rattle.entries.specs.declared.per_ns.Item.{Item}
use Rattle.entries.specs.declared.per_ns.PerNs.{PerNs}
use Rattle.entries.specs.Entries.{nothing, or_else, kept, kept_all}
use Rattle.entries.specs.Visibilities.{Sees, public, visible, chain_of, settled}
use Rattle.entries.proofs.Visible.{visible_decides}
use Rattle.item_scope.specs.contracts.index_data.DefMapIdPartialEq.TheImpl.{eq-value as same_map}
use Rattle.item_scope.specs.declared.index_data.EnumVariant.{EnumVariant}
use Rattle.item_scope.specs.Views.{View, Types}
use Rattle.path_resolution.specs.declared.answer.ReachedFixedPoint.TheVariants.{Yes}
use Rattle.path_resolution.specs.declared.answer.ResolvePathResult.{ResolvePathResult as Answer}
use Rattle.path_resolution.specs.declared.question.Question.{Question}
use Rattle.path_resolution.specs.declared.remaining_segments.Reached.{Reached}
use Rattle.path_resolution.specs.declared.remaining_segments.Step.TheVariants.{Done}
use Rattle.path_resolution.specs.declared.single.Asked.{Asked}
use Rattle.path_resolution.specs.Answers.{empty, merged}
use Rattle.path_resolution.specs.Outward.{unasked, turn, joined_to, with_preludes, outward, outward_from}
use Rattle.path_resolution.specs.Shown.{names_its_start, Shows, ShowsAll, ShowsVisible}
use Rattle.path_resolution.specs.Singles.{self_asked, super_asked, single_of, preludes_of}
use Rattle.path_resolution.specs.Starts.{start_at, map_of, super_of}
use Rattle.path_resolution.specs.Walks.{sight, variant_of, unresolved, enum_step_by, def_step, type_step, step_by, on_step, walk_of}

shows-none : (t : Shape) (from : ModuleId) → ShowsAll t from nothing
shows-none t from = record { types = tt; values = tt; macros = tt }

shows-first : {D M : Type 0} (t : Shape) (from : ModuleId) (a b : Option (Item D M)) → Shows t from a → Shows t from b → Shows t from (option_or a b)
shows-first t from None b x y = y
shows-first t from (Some it) b x y = x

shows-or : (t : Shape) (from : ModuleId) (p q : PerNs) → ShowsAll t from p → ShowsAll t from q → ShowsAll t from (or_else p q)
shows-or t from p q x y = record {
  types = shows-first t from p.types q.types x.types y.types;
  values = shows-first t from p.values q.values x.values y.values;
  macros = shows-first t from p.macros q.macros x.macros y.macros;
}

shows-start : (t : Shape) (from m start : ModuleId) → ShowsAll t from (start_at t m start).entries
shows-start t from m start = record { types = public; values = tt; macros = tt }

shows-variant : (t : Shape) (from : ModuleId) (ty : Types) (x : EnumVariant) → Sees t from ty.vis → ShowsAll t from (variant_of ty x)
shows-variant t from ty x s = by-constructor x.has_constructor
  where
    by-constructor : (b : Bool) → ShowsAll t from (variant_of ty (record { variant = x.variant; has_constructor = b }))
    by-constructor true = record { types = s; values = s; macros = tt }
    by-constructor false = record { types = s; values = tt; macros = tt }

module _ (v : View) (rank : ModuleId → ℕ) (rules : Rules v.fixed.tree rank) (judge : ModuleId) where
  shows-kept : {D M : Type 0} (o : Option (Item D M)) → Shows v.fixed.tree judge (kept v.fixed.tree judge o)
  shows-kept None = tt
  shows-kept {D} {M} (Some it) = by-sight (visible v.fixed.tree judge it.vis) refl
    where
      by-sight : (b : Bool) → visible v.fixed.tree judge it.vis ≡ b → Shows v.fixed.tree judge (if b then Some it else None)
      by-sight true e = (visible_decides v.fixed.tree rank rules judge it.vis).0 e
      by-sight false e = tt

  shows-kept_all : (p : PerNs) → ShowsAll v.fixed.tree judge (kept_all v.fixed.tree judge p)
  shows-kept_all p = record { types = shows-kept p.types; values = shows-kept p.values; macros = shows-kept p.macros }

  -- what is shown when the walk goes on over the names
  abbrev Later : List Name → Type 0
  Later ns = (r : Reached) (i : ℕ) → ShowsAll v.fixed.tree judge r.entries → ShowsAll v.fixed.tree judge (walk_of (sight v judge) r i ns).resolved_def

  module _ (ns : List Name) (later : Later ns) (r : Reached) (i : ℕ) (n : Name) where
    abbrev goes : Reached → Answer
    goes next = walk_of (sight v judge) next (i + 1) ns

    on-enum : (o : Option EnumVariant) (ty : Types) → Sees v.fixed.tree judge ty.vis → ShowsAll v.fixed.tree judge (on_step (enum_step_by o r ty i) goes).resolved_def
    on-enum None ty s = record { types = s; values = tt; macros = tt }
    on-enum (Some x) ty s = later _ (i + 1) (shows-variant v.fixed.tree judge ty x s)

    on-def : (d : ModuleDefId) (ty : Types) → Sees v.fixed.tree judge ty.vis → ShowsAll v.fixed.tree judge (on_step (def_step (sight v judge) r ty d i n) goes).resolved_def
    on-def (def.ModuleId m) ty s = later _ (i + 1) (shows-kept_all _)
    on-def (def.AdtId (adt.EnumId e)) ty s = on-enum (v.fixed.variant e n) ty s
    on-def _ ty s = record { types = s; values = tt; macros = tt }

    on-variant : (b : Bool) (ty : Types) → Sees v.fixed.tree judge ty.vis
        → ShowsAll v.fixed.tree judge (on_step (if b then Done (unresolved r) else type_step (sight v judge) r ty i n) goes).resolved_def
    on-variant true ty s = shows-none v.fixed.tree judge
    on-variant false ty s = on-def ty.def ty s

    on-type : (o : Option Types) → Shows v.fixed.tree judge o → ShowsAll v.fixed.tree judge (on_step (step_by (sight v judge) r o i n) goes).resolved_def
    on-type None s = shows-none v.fixed.tree judge
    on-type (Some ty) s = on-variant r.passed.enum_variant ty s

  walk-shows : (ns : List Name) → Later ns
  unfolding walk_of
  walk-shows [] r i h = h
  walk-shows (n ∷ ns) r i h = on-type ns (walk-shows ns) r i n r.entries.types h.types

  shows-super : (ns : List Name) (m : ModuleId) (o : Option ModuleId) → ShowsAll v.fixed.tree judge (super_asked v judge ns m o).resolved_def
  shows-super ns m None = shows-none v.fixed.tree judge
  shows-super ns m (Some at) = by-map (same_map.it (map_of v.fixed.tree at) (map_of v.fixed.tree m))
    where
      own : ShowsAll v.fixed.tree judge (walk_of (sight v judge) (start_at v.fixed.tree at at) 0 ns).resolved_def
      own = walk-shows ns (start_at v.fixed.tree at at) 0 (shows-start v.fixed.tree judge at at)

      by-block : (b : Bool) → let a = walk_of (sight v judge) (start_at v.fixed.tree at at) 0 ns in ShowsAll v.fixed.tree judge (if b then merged a (empty Yes) else a).resolved_def
      by-block true = shows-or v.fixed.tree judge _ _ own (shows-none v.fixed.tree judge)
      by-block false = own

      by-map : (b : Bool) → ShowsAll v.fixed.tree judge (if b then walk_of (sight v judge) (start_at v.fixed.tree m at) 0 ns else self_asked v judge ns at).resolved_def
      by-map true = walk-shows ns (start_at v.fixed.tree m at) 0 (shows-start v.fixed.tree judge m at)
      by-map false = by-block (is_some (v.fixed.tree.block_of at))

module _ (v : View) (rank : ModuleId → ℕ) (rules : Rules v.fixed.tree rank) (q : Question) (ns : List Name) where
  abbrev judge : ModuleId
  judge = q.original_module

  shows-single : (k : PathKind) (m : ModuleId) → names_its_start k ≡ true → ShowsAll v.fixed.tree judge (single_of v q k ns m).answer.resolved_def
  unfolding single_of
  shows-single Plain m e = absurd (false≢true e)
  shows-single Abs m e = absurd (false≢true e)
  shows-single Crate m e = walk-shows v rank rules judge ns _ 0 (shows-start v.fixed.tree judge m _)
  shows-single (DollarCrate c) m e = walk-shows v rank rules judge ns _ 0 (shows-start v.fixed.tree judge m _)
  shows-single (Super level) m e = shows-super v rank rules judge ns m (super_of v.fixed.tree level m)

  shows-preludes : (k : PathKind) (m : ModuleId) → names_its_start k ≡ true → ShowsAll v.fixed.tree judge (preludes_of v q k ns m).resolved_def
  unfolding preludes_of
  shows-preludes Plain m e = absurd (false≢true e)
  shows-preludes Abs m e = absurd (false≢true e)
  shows-preludes Crate m e = shows-none v.fixed.tree judge
  shows-preludes (DollarCrate c) m e = shows-none v.fixed.tree judge
  shows-preludes (Super level) m e = shows-none v.fixed.tree judge

  module _ (k : PathKind) (starts : names_its_start k ≡ true) where
    abbrev Fine : Answer → Type 0
    Fine a = ShowsAll v.fixed.tree judge a.resolved_def

    shows-turn : (a : Asked) (m : ModuleId) → Fine a.answer → Fine (turn v q k ns a m).answer
    shows-turn a m h = by-final a.is_final
      where
        by-final : (b : Bool) → Fine (if b then a else joined_to a (single_of v q k ns m)).answer
        by-final true = h
        by-final false = shows-or v.fixed.tree judge _ _ h (shows-single k m starts)

    shows-turns : (ms : List ModuleId) (a : Asked) → Fine a.answer → Fine (fold (turn v q k ns) a ms).answer
    shows-turns [] a h = h
    shows-turns (m ∷ ms) a h = shows-turns ms (turn v q k ns a m) (shows-turn a m h)

    shows-last : (b : Option BlockId) (a : Asked) → Fine a.answer → Fine (with_preludes v q k ns b a)
    shows-last None a h = h
    shows-last (Some b) a h = by-final a.is_final
      where
        by-final : (f : Bool) → Fine (if f then a.answer else merged a.answer (preludes_of v q k ns (v.fixed.tree.block_root b)))
        by-final true = h
        by-final false = shows-or v.fixed.tree judge _ _ h (shows-preludes k (v.fixed.tree.block_root b) starts)

pub shows-visible : (v : View) (t : Shape) (rank : ModuleId → ℕ) (q : Question) (k : PathKind) (ns : List Name) → v.fixed.tree ≡ t → Rules t rank → ShowsVisible v q k (outward v q k ns q.original_module)
unfolding outward_from
shows-visible v t rank q k ns tied ruled starts =
    let rules : Rules v.fixed.tree rank = subst (λ (s : Shape). Rules s rank) (sym tied) ruled in
    let m = q.original_module in
    shows-last v rank rules q ns k starts (v.fixed.tree.block_of (settled v.fixed.tree m)) _
    (shows-turns v rank rules q ns k starts (chain_of v.fixed.tree (block_exit v.fixed.tree) m) unasked (shows-none v.fixed.tree m))
