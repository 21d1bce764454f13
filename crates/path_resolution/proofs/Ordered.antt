-- The earliest source of a name wins, and so does the inner module of those that are asked outward.
use Rattle.std.proofs.Common.{◌≡◌, suc, Bool, true, false, if◌then◌else◌, List, [], ◌∷◌, ◌++◌, ◌⊎◌, inl, inr, is_some, Some, None, Option, sym, refl, ap, ◌∙◌, subst, arith}
use Rattle.std.proofs.lemmas.Bool.{false≢true}
use Rattle.std.specs.List.{All, fold}
use Rattle.std.specs.Option.{option_or, option_map_or}
use Rattle.hir_def.specs.declared.BlockId.{BlockId}
use Rattle.hir_def.specs.declared.MacroId.{MacroId}
use Rattle.hir_def.specs.declared.ModuleId.{ModuleId}
use Rattle.hir_def.specs.declared.ModuleDefId.TheVariants as def
use Rattle.hir_def.specs.declared.Name.{Name}
use Rattle.hir_def.specs.declared.builtin_type.BuiltinType.{BuiltinType}
use Rattle.hir_def.specs.Builtins.{type_at}
use Rattle.nameres.specs.Shapes.{Shape, block_exit}
use Rattle.path_text.specs.declared.mod_path.PathKind.{PathKind}
use Rattle.path_text.specs.declared.mod_path.PathKind.TheVariants.{Plain}
use Rattle.entries.specs.declared.per_ns.PerNs.{PerNs}
use Rattle.entries.specs.declared.visibility.Visibility.TheVariants.{Public}
use Rattle.entries.specs.Entries.{nothing, of_types, of_macros, or_else}
use Rattle.entries.specs.Visibilities.{chain, chain_of, settled}
use Rattle.item_scope.specs.Places.{holder}
use Rattle.item_scope.specs.Views.{View, Types, Values, Macros, entries_at}
use Rattle.path_resolution.specs.declared.question.BuiltinShadowMode.{BuiltinShadowMode}
use Rattle.path_resolution.specs.declared.question.BuiltinShadowMode.TheVariants as shadow
use Rattle.path_resolution.specs.declared.question.MacroSubNs.{MacroSubNs}
use Rattle.path_resolution.specs.declared.question.Question.{Question}
use Rattle.path_resolution.specs.declared.single.Asked.{Asked}
use Rattle.path_resolution.specs.Order.{Wins, EarlierWins, Keeps, InnerFirst, legacy_entry, BuiltinPrecedes, OwnFirst, SourceOrder, OwnNamesFirst}
use Rattle.path_resolution.specs.Answers.{merged}
use Rattle.path_resolution.specs.Outward.{unasked, turn, joined_to, with_preludes, outward, outward_from}
use Rattle.path_resolution.specs.Singles.{as_2015, single_of, preludes_of}
use Rattle.path_resolution.specs.Sources.{fits, macro_fitting, fitting, from_legacy, from_builtin, builtin_first, is_module, is_module_def, first_filled, sources, from_module, from_extern_prelude, from_macro_use, from_prelude, skipped_in_block_roots}
use Rattle.path_resolution.specs.Starts.{map_of}
use Rattle.path_resolution.specs.Walks.{walk_of}

-- one namespace of the entries
module _ {E : Type 0} (part : PerNs → Option E) (joins : (p q : PerNs) → part (or_else p q) ≡ option_or (part p) (part q)) where
  stays : (p q : PerNs) (e : E) → part p ≡ Some e → part (or_else p q) ≡ Some e
  stays p q e h = joins p q ∙ ap (λ o. option_or o (part q)) h

  passes : (p q : PerNs) → part p ≡ None → part (or_else p q) ≡ part q
  passes p q h = joins p q ∙ ap (λ o. option_or o (part q)) h

  kept : (ps : List PerNs) (p : PerNs) (e : E) → part p ≡ Some e → part (fold or_else p ps) ≡ Some e
  kept [] p e h = h
  kept (q ∷ ps) p e h = kept ps (or_else p q) e (stays p q e h)

  wins : (before : List PerNs) (s : PerNs) (after : List PerNs) (p : PerNs) (e : E) → part p ≡ None → All (λ b. part b ≡ None) before → part s ≡ Some e → part (fold or_else p (before ++ s ∷ after)) ≡ Some e
  wins [] s after p e none all h = kept after (or_else p s) e (passes p s none ∙ h)
  wins (b ∷ bs) s after p e none all h =
      wins bs s after (or_else p b) e (passes p b none ∙ all 0 b (omega arith)) (λ k d l. all (suc k) d (omega arith)) h

  earliest : part nothing ≡ None → (ps : List PerNs) (p : PerNs) → p ≡ first_filled ps → Wins part ps p
  earliest none ps p e before s after x split all h =
      ap part (e ∙ ap first_filled split) ∙ wins before s after nothing x none all h

  -- the own entry and the built-in type, in either order, after a source that has nothing
  near : (l own builtin : PerNs) (b : Bool) (rest : List PerNs) (e : E) → part nothing ≡ None → part l ≡ None → part builtin ≡ None → part own ≡ Some e
      → part (first_filled (l ∷ (if b then builtin else own) ∷ (if b then own else builtin) ∷ rest)) ≡ Some e
  near l own builtin true rest e none hl hb h =
      let a : part (or_else nothing l) ≡ None = passes nothing l none ∙ hl in
      let c : part (or_else (or_else nothing l) builtin) ≡ None = passes (or_else nothing l) builtin a ∙ hb in
      kept rest (or_else (or_else (or_else nothing l) builtin) own) e (passes (or_else (or_else nothing l) builtin) own c ∙ h)
  near l own builtin false rest e none hl hb h =
      let a : part (or_else nothing l) ≡ None = passes nothing l none ∙ hl in
      kept (builtin ∷ rest) (or_else (or_else nothing l) own) e (passes (or_else nothing l) own a ∙ h)

  -- the first source has something
  first : (l : PerNs) (rest : List PerNs) (e : E) → part nothing ≡ None → part l ≡ Some e → part (first_filled (l ∷ rest)) ≡ Some e
  first l rest e none h = kept rest (or_else nothing l) e (passes nothing l none ∙ h)

  -- the own entry, or the built-in type where that goes first
  either : (l own builtin : PerNs) (b : Bool) (rest : List PerNs) (e : E) (o : Option E) → part nothing ≡ None → part l ≡ None → part builtin ≡ o → part own ≡ Some e
      → let p = first_filled (l ∷ (if b then builtin else own) ∷ (if b then own else builtin) ∷ rest) in
      (part p ≡ Some e) ⊎ ((b ≡ true) × ((x : E) × (o ≡ Some x) × (part p ≡ Some x)))
  either l own builtin b rest e None none hl hb h = inl (near l own builtin b rest e none hl hb h)
  either l own builtin true rest e (Some x) none hl hb h =
      let a : part (or_else nothing l) ≡ None = passes nothing l none ∙ hl in
      inr (refl, (x, refl, kept (own ∷ rest) (or_else (or_else nothing l) builtin) x (passes (or_else nothing l) builtin a ∙ hb)))
  either l own builtin false rest e (Some x) none hl hb h =
      let a : part (or_else nothing l) ≡ None = passes nothing l none ∙ hl in
      inl (kept (builtin ∷ rest) (or_else (or_else nothing l) own) e (passes (or_else nothing l) own a ∙ h))

-- when a built-in type goes first
precedes : (s : BuiltinShadowMode) (p : PerNs) (it : Types) → p.types ≡ Some it → builtin_first s p ≡ true → (s ≡ shadow.Other) × (is_module_def it.def ≡ true)
precedes shadow.Module p it h e = absurd (false≢true e)
precedes shadow.Other p it h e = (refl, sym (ap is_module h) ∙ e)

earlier-wins : (ps : List PerNs) (p : PerNs) → p ≡ first_filled ps → EarlierWins ps p
earlier-wins ps p e = record {
  types = earliest (λ s. s.types) (λ a b. refl) refl ps p e;
  values = earliest (λ s. s.values) (λ a b. refl) refl ps p e;
  macros = earliest (λ s. s.macros) (λ a b. refl) refl ps p e;
}

keeps-or : (p q : PerNs) → Keeps p (or_else p q)
keeps-or p q = record {
  types = stays (λ s. s.types) (λ a b. refl) p q;
  values = stays (λ s. s.values) (λ a b. refl) p q;
  macros = stays (λ s. s.macros) (λ a b. refl) p q;
}

keeps-all : (p : PerNs) → Keeps p p
keeps-all p = record { types = λ e h. h; values = λ e h. h; macros = λ e h. h }

keeps-on : {p q r : PerNs} → Keeps p q → Keeps q r → Keeps p r
keeps-on a b = record { types = λ e h. b.types e (a.types e h); values = λ e h. b.values e (a.values e h); macros = λ e h. b.macros e (a.macros e h) }

wins-on : {E : Type 0} (part : PerNs → Option E) (ps : List PerNs) (p r : PerNs) → Wins part ps p → ((e : E) → part p ≡ Some e → part r ≡ Some e) → Wins part ps r
wins-on part ps p r w k before s after e split all h = k e (w before s after e split all h)

earlier-on : (ps : List PerNs) (p r : PerNs) → EarlierWins ps p → Keeps p r → EarlierWins ps r
earlier-on ps p r w k = record {
  types = wins-on (λ s. s.types) ps p r w.types k.types;
  values = wins-on (λ s. s.values) ps p r w.values k.values;
  macros = wins-on (λ s. s.macros) ps p r w.macros k.macros;
}

module _ (v : View) (q : Question) (k : PathKind) (ns : List Name) where
  keeps-turn : (a : Asked) (m : ModuleId) → Keeps a.answer.resolved_def (turn v q k ns a m).answer.resolved_def
  keeps-turn a m = by-final a.is_final
    where
      by-final : (b : Bool) → Keeps a.answer.resolved_def (if b then a else joined_to a (single_of v q k ns m)).answer.resolved_def
      by-final true = keeps-all _
      by-final false = keeps-or _ _

  keeps-turns : (ms : List ModuleId) (a : Asked) → Keeps a.answer.resolved_def (fold (turn v q k ns) a ms).answer.resolved_def
  keeps-turns [] a = keeps-all _
  keeps-turns (m ∷ ms) a = keeps-on (keeps-turn a m) (keeps-turns ms (turn v q k ns a m))

  keeps-preludes : (b : Option BlockId) (a : Asked) → Keeps a.answer.resolved_def (with_preludes v q k ns b a).resolved_def
  keeps-preludes None a = keeps-all _
  keeps-preludes (Some b) a = by-final a.is_final
    where
      by-final : (f : Bool) → Keeps a.answer.resolved_def (if f then a.answer else merged a.answer (preludes_of v q k ns (v.fixed.tree.block_root b))).resolved_def
      by-final true = keeps-all _
      by-final false = keeps-or _ _

  pub inner-first : InnerFirst v q k ns (outward v q k ns q.original_module)
  unfolding outward_from chain_of
  inner-first =
      let t = v.fixed.tree in
      let m = q.original_module in
      let first : Asked = turn v q k ns unasked m in
      let rest : List ModuleId = chain (block_exit t) (block_exit t m) t.modules in
      keeps-on (keeps-turns rest first) (keeps-preludes (t.block_of (settled t m)) (fold (turn v q k ns) first rest))

-- what a single module answers to a plain path of one name
one-name : (v : View) (q : Question) (n : Name) (m : ModuleId) → as_2015 v q Plain m ≡ false → (single_of v q Plain (n ∷ []) m).answer.resolved_def ≡ from_module v q q.shadow m n
unfolding single_of walk_of
one-name v q n m e = rw e

no-legacy-types : (o : Option MacroId) → (option_map_or (λ d. of_macros d Public None) o nothing).types ≡ None
no-legacy-types None = refl
no-legacy-types (Some d) = refl

no-legacy-values : (o : Option MacroId) → (option_map_or (λ d. of_macros d Public None) o nothing).values ≡ None
no-legacy-values None = refl
no-legacy-values (Some d) = refl

-- built-in types are types alone
no-builtin-values : (t : Shape) (m : ModuleId) (n : Name) → (from_builtin t m n).values ≡ None
no-builtin-values t m n = by-block (is_some (t.block_of m)) (type_at n)
  where
    by-block : (b : Bool) (o : Option BuiltinType) → (if b then nothing else option_map_or (λ b. of_types (def.BuiltinType b) Public None) o nothing).values ≡ None
    by-block true o = refl
    by-block false None = refl
    by-block false (Some x) = refl

no-builtin-macros : (t : Shape) (m : ModuleId) (n : Name) → (from_builtin t m n).macros ≡ None
no-builtin-macros t m n = by-block (is_some (t.block_of m)) (type_at n)
  where
    by-block : (b : Bool) (o : Option BuiltinType) → (if b then nothing else option_map_or (λ b. of_types (def.BuiltinType b) Public None) o nothing).macros ≡ None
    by-block true o = refl
    by-block false None = refl
    by-block false (Some x) = refl

module _ (v : View) (q : Question) (n : Name) where
  abbrev m : ModuleId
  m = q.original_module

  abbrev x : Option MacroSubNs
  x = q.expected_macro_subns

  abbrev legacy : PerNs
  legacy = fitting v x (from_legacy v m n)

  abbrev own : PerNs
  own = fitting v x (entries_at v m n)

  abbrev builtin : PerNs
  builtin = from_builtin v.fixed.tree m n

  abbrev rest : List PerNs
  rest =
      skipped_in_block_roots v.fixed.tree m (from_extern_prelude v m n)
      ∷ fitting v x (from_macro_use v (map_of v.fixed.tree m) n)
      ∷ skipped_in_block_roots v.fixed.tree m (fitting v x (from_prelude v (map_of v.fixed.tree m) m n))
      ∷ []

  abbrev after_legacy : List PerNs
  after_legacy = (if builtin_first q.shadow own then builtin else own) ∷ (if builtin_first q.shadow own then own else builtin) ∷ rest

  own-types : (it : Types) → holder (v.types m n) ≡ Some it
      → let p = from_module v q q.shadow m n in (p.types ≡ Some it) ⊎ BuiltinPrecedes v q n it p
  own-types it h =
      elim (either (λ s. s.types) (λ a b. refl) legacy own builtin (builtin_first q.shadow own) rest it builtin.types refl (no-legacy-types (v.fixed.legacy m n)) refl h) [
        | inl e ↦ inl e
        | inr b ↦ let w = precedes q.shadow own it h b.0 in inr (record { shadow = w.0; over = w.1; ty = b.1.0; builtin = b.1.1; answers = b.1.2 })
      ]

  own-values : (it : Values) → holder (v.values m n) ≡ Some it → (from_module v q q.shadow m n).values ≡ Some it
  own-values it h =
      near (λ s. s.values) (λ a b. refl) legacy own builtin (builtin_first q.shadow own) rest it refl (no-legacy-values (v.fixed.legacy m n)) (no-builtin-values v.fixed.tree m n) h

  own-macros : (it : Macros) → holder (v.macros m n) ≡ Some it → fits v x it.def ≡ true
      → let p = from_module v q q.shadow m n in
      (p.macros ≡ Some it) ⊎ ((d : MacroId) × (v.fixed.legacy m n ≡ Some d) × (p.macros ≡ Some (legacy_entry d)))
  own-macros it h fit = by-legacy (v.fixed.legacy m n) refl
    where
      mine : own.macros ≡ Some it
      mine = ap (macro_fitting v x) h ∙ ap (λ b. if b then Some it else None) fit

      unless : legacy.macros ≡ None → (from_module v q q.shadow m n).macros ≡ Some it
      unless none =
          near (λ s. s.macros) (λ a b. refl) legacy own builtin (builtin_first q.shadow own) rest it refl none (no-builtin-macros v.fixed.tree m n) mine

      by-legacy : (o : Option MacroId) → v.fixed.legacy m n ≡ o
          → let p = from_module v q q.shadow m n in
          (p.macros ≡ Some it) ⊎ ((d : MacroId) × (v.fixed.legacy m n ≡ Some d) × (p.macros ≡ Some (legacy_entry d)))
      by-legacy None e = inl (unless (ap (λ o. macro_fitting v x (option_map_or (λ d. of_macros d Public None) o nothing).macros) e))
      by-legacy (Some d) e = by-fit (fits v x d) refl
        where
          told : legacy.macros ≡ (if fits v x d then Some (legacy_entry d) else None)
          told = ap (λ o. macro_fitting v x (option_map_or (λ d. of_macros d Public None) o nothing).macros) e

          by-fit : (b : Bool) → fits v x d ≡ b
              → let p = from_module v q q.shadow m n in
              (p.macros ≡ Some it) ⊎ ((d : MacroId) × (v.fixed.legacy m n ≡ Some d) × (p.macros ≡ Some (legacy_entry d)))
          by-fit true f =
              inr (d, e, first (λ s. s.macros) (λ a b. refl) legacy after_legacy (legacy_entry d) refl (told ∙ ap (λ b. if b then Some (legacy_entry d) else None) f))
          by-fit false f = inl (unless (told ∙ ap (λ b. if b then Some (legacy_entry d) else None) f))

  own-first : OwnFirst v q n (from_module v q q.shadow m n)
  own-first = record { types = own-types; values = own-values; macros = own-macros }

own-on : (v : View) (q : Question) (n : Name) (p r : PerNs) → OwnFirst v q n p → Keeps p r → OwnFirst v q n r
own-on v q n p r o k = record {
  types = λ it h. elim (o.types it h) [
    | inl e ↦ inl (k.types it e)
    | inr b ↦ inr (record { shadow = b.shadow; over = b.over; ty = b.ty; builtin = b.builtin; answers = k.types b.ty b.answers })
  ];
  values = λ it h. k.values it (o.values it h);
  macros = λ it h f. elim (o.macros it h f) [
    | inl e ↦ inl (k.macros it e)
    | inr d ↦ inr (d.0, d.1, k.macros (legacy_entry d.0) d.2)
  ];
}

module _ (v : View) (q : Question) (k : PathKind) (ns : List Name) where
  keeps-name : k ≡ Plain → as_2015 v q k q.original_module ≡ false → (n : Name) → ns ≡ n ∷ [] → Keeps (from_module v q q.shadow q.original_module n) (outward v q k ns q.original_module).resolved_def
  keeps-name plain later n one =
      let e : as_2015 v q Plain q.original_module ≡ false = subst (λ (x : PathKind). as_2015 v q x q.original_module ≡ false) plain later in
      let s : (single_of v q k ns q.original_module).answer.resolved_def ≡ from_module v q q.shadow q.original_module n =
      ap (λ (x : PathKind). (single_of v q x ns q.original_module).answer.resolved_def) plain
      ∙ ap (λ (x : List Name). (single_of v q Plain x q.original_module).answer.resolved_def) one
      ∙ one-name v q n q.original_module e in
      subst (λ (p : PerNs). Keeps p (outward v q k ns q.original_module).resolved_def) s (inner-first v q k ns)

  pub source-order : SourceOrder v q k ns (outward v q k ns q.original_module)
  source-order plain later n one =
      earlier-on (sources v q q.shadow q.original_module n) (from_module v q q.shadow q.original_module n) (outward v q k ns q.original_module).resolved_def
      (earlier-wins (sources v q q.shadow q.original_module n) (from_module v q q.shadow q.original_module n) refl) (keeps-name plain later n one)

  pub own-names-first : OwnNamesFirst v q k ns (outward v q k ns q.original_module)
  own-names-first plain later n one =
      own-on v q n (from_module v q q.shadow q.original_module n) (outward v q k ns q.original_module).resolved_def (own-first v q n) (keeps-name plain later n one)
