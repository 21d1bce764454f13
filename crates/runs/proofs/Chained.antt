-- The chain law: by induction on the names, along the walk.
use Rattle.std.proofs.Common.{◌≡◌, ℕ, ◌+◌, List, [], ◌∷◌, IfOk, ◌++◌, ◌⊎◌, inl, inr, ◌↔◌, Some, None, Option, Result, refl, sym, ap, ◌∙◌, subst, arith}
use Rattle.std.proofs.lemmas.Bool.{eq-eqb}
use Rattle.std.proofs.lemmas.Option.{none-some, same_Some}
use Rattle.hir_def.specs.declared.ModuleId.{ModuleId}
use Rattle.hir_def.specs.declared.ModuleDefId.{ModuleDefId}
use Rattle.hir_def.specs.declared.ModuleDefId.TheVariants as def
use Rattle.hir_def.specs.declared.Name.{Name}
use Rattle.hir_def.specs.declared.fault.PathFault.{PathFault}
use Rattle.nameres.specs.Shapes.{block_exit, exit_of}
use Rattle.path_text.specs.declared.mod_path.PathKind.{PathKind}
use Rattle.path_text.specs.declared.mod_path.PathKind.TheVariants.{Crate}
use Rattle.entries.specs.declared.per_ns.Item.{Item}
use Rattle.entries.specs.declared.per_ns.PerNs.{PerNs}
use Rattle.entries.specs.Entries.{kept_all}
use Rattle.entries.proofs.Climbs.{chain-end, settled_here}
use Rattle.item_scope.specs.Views.{View, Types, entries_at}
use Rattle.path_resolution.specs.declared.answer.ReachedFixedPoint.TheVariants.{Yes, No}
use Rattle.path_resolution.specs.declared.answer.ResolvePathResult.{ResolvePathResult as Answer}
use Rattle.path_resolution.specs.declared.question.Question.{Question}
use Rattle.path_resolution.specs.Answers.{empty}
use Rattle.path_resolution.specs.Outward.{outward, outward_from}
use Rattle.path_resolution.specs.Questions.{answered}
use Rattle.path_resolution.specs.Singles.{root_asked, single_of}
use Rattle.path_resolution.specs.Starts.{begun}
use Rattle.path_resolution.specs.Walks.{sight, whole, walk_of}
use Rattle.path_resolution.proofs.Accepted.{of-answer}
use Rattle.runs.specs.Chains.{InSight, NoneInSight, Leads, Fills, ProperPrefix, StaysIn, IsChain, ChainAnswer, ChainAt, root_of}
use Rattle.runs.specs.Chains.Leads.{here, through, nowhere}
use Rattle.runs.specs.Chains.Fills.{last, after}
use Rattle.runs.specs.Spaces.{Space}
use Rattle.runs.specs.Spaces as space
use Rattle.runs.proofs.Sighted.{Tested, same-entry, kept-in-sight, kept-none}

yes-no : Yes ≡ No → ⊥
yes-no e = absurd (let z : ◌≡◌ {A = ℕ} 0 1 = cc in omega arith)

-- what holds a name is not empty
pub never-empty : (ps : List Name) (n : Name) (rest : List Name) → [] ≡ ps ++ n ∷ rest → ⊥
never-empty [] n rest e = cc
never-empty (p ∷ ps) n rest e = cc

module _ (v : View) (from : ModuleId) where
  -- the relations, taken apart
  leads-nil : {d : ModuleDefId} {o : Option ModuleDefId} → Leads v from d [] o → o ≡ Some d
  leads-nil here = refl

  nil-leads : {d : ModuleDefId} → Leads v from d [] None → ⊥
  nil-leads {d} l = none-some d (leads-nil l)

  leads-on : {m : ModuleId} {n : Name} {ns : List Name} {o : Option ModuleDefId} → Leads v from (def.ModuleId m) (n ∷ ns) o
      → ((s : Types) × InSight v.fixed.tree from (v.types m n) s × Leads v from s.def ns o) ⊎ (NoneInSight v.fixed.tree from (v.types m n) × (o ≡ None))
  leads-on (through {e = s} h l) = inl (s, h, l)
  leads-on (nowhere h) = inr (h, refl)

  fills-one : {D M : Type 0} {sp : Space D M} {m : ModuleId} {n : Name} {e : Item D M} → Fills sp v from (def.ModuleId m) (n ∷ []) e → InSight v.fixed.tree from (sp.places v m n) e
  fills-one (last h) = h
  fills-one (after h f) = elim f [ ]

  fills-on : {D M : Type 0} {sp : Space D M} {m : ModuleId} {n x : Name} {xs : List Name} {e : Item D M} → Fills sp v from (def.ModuleId m) (n ∷ x ∷ xs) e
      → (s : Types) × InSight v.fixed.tree from (v.types m n) s × Fills sp v from s.def (x ∷ xs) e
  fills-on (after {s = s} h f) = (s, h, f)

  -- a step that shows a type
  module _ (m : ModuleId) (n : Name) (s : Types) (h : InSight v.fixed.tree from (v.types m n) s) where
    leads-past : (ps : List Name) (o : Option ModuleDefId) → Leads v from (def.ModuleId m) (n ∷ ps) o → Leads v from s.def ps o
    leads-past ps o l = elim (leads-on l) [
      | inl g ↦ subst (λ (x : Types). Leads v from x.def ps o) (same-entry v.fixed.tree from (v.types m n) g.0 s g.1 h) g.2
      | inr g ↦ absurd (g.0 s h)
    ]

    lost-past : (ns ps : List Name) → ProperPrefix ps (n ∷ ns) → Leads v from (def.ModuleId m) ps None → (qs : List Name) × ProperPrefix qs ns × Leads v from s.def qs None
    lost-past ns [] z l = absurd (nil-leads l)
    lost-past ns (p ∷ ps) (y, rest, e) l =
        let a : p ≡ n = cc in
        let b : ns ≡ ps ++ y ∷ rest = cc in
        (ps, (y, rest, b), leads-past ps None (subst (λ (x : Name). Leads v from (def.ModuleId m) (x ∷ ps) None) a l))

    stays-past : (ns : List Name) → ((ps : List Name) → ProperPrefix ps (n ∷ ns) → StaysIn v from (def.ModuleId m) ps) → (ps : List Name) → ProperPrefix ps ns → StaysIn v from s.def ps
    stays-past ns stays ps (y, rest, e) = elim (stays (n ∷ ps) (y, rest, ap (λ l. n ∷ l) e)) [
      | inl g ↦ inl (g.0, leads-past ps (Some (def.ModuleId g.0)) g.1, g.2)
      | inr l ↦ inr (leads-past ps None l)
    ]

    filled-past : {D M : Type 0} (sp : Space D M) (x : Name) (xs : List Name) (o : Option (Item D M)) → ((e : Item D M) → (o ≡ Some e) ↔ Fills sp v from s.def (x ∷ xs) e)
        → (e : Item D M) → (o ≡ Some e) ↔ Fills sp v from (def.ModuleId m) (n ∷ x ∷ xs) e
    filled-past sp x xs o f e = (
      λ k. after h ((f e).0 k),
      λ g. let z = fills-on g in
          (f e).1 (subst (λ (y : Types). Fills sp v from y.def (x ∷ xs) e) (same-entry v.fixed.tree from (v.types m n) z.0 s z.1 h) z.2),
    )

    -- the answer is that from the type on
    answer-past : (x : Name) (xs : List Name) (a : Answer) → ChainAnswer v from s.def (x ∷ xs) a → ChainAnswer v from (def.ModuleId m) (n ∷ x ∷ xs) a
    answer-past x xs a c = record {
      filled = record {
        types = filled-past space.types x xs a.resolved_def.types c.filled.types;
        values = filled-past space.values x xs a.resolved_def.values c.filled.values;
        macros = filled-past space.macros x xs a.resolved_def.macros c.filled.macros;
      };
      no = (
        λ k. let z = c.no.0 k in (n ∷ z.0, (z.1.0, z.1.1, ap (λ l. n ∷ l) z.1.2), through h z.2),
        λ g. c.no.1 (lost-past (x ∷ xs) g.0 g.1 g.2),
      );
      no_index = c.no_index;
      no_flags = c.no_flags;
    }

  -- a step that shows none
  module _ (m : ModuleId) (n x : Name) (xs : List Name) (none : NoneInSight v.fixed.tree from (v.types m n)) where
    unfilled : {D M : Type 0} (sp : Space D M) (e : Item D M) → (None ≡ Some e) ↔ Fills sp v from (def.ModuleId m) (n ∷ x ∷ xs) e
    unfilled sp e = (λ k. absurd (none-some e k), λ f. let z = fills-on f in absurd (none z.0 z.1))

    answer-lost : ChainAnswer v from (def.ModuleId m) (n ∷ x ∷ xs) (empty No)
    answer-lost = record {
      filled = record { types = unfilled space.types; values = unfilled space.values; macros = unfilled space.macros };
      no = (λ k. (n ∷ [], (x, xs, refl), nowhere none), λ g. refl);
      no_index = refl;
      no_flags = refl;
    }

  module _ (tested : Tested v.fixed.tree from) where
    abbrev seen : ModuleId → Name → PerNs
    seen m n = kept_all v.fixed.tree from (entries_at v m n)

    one-name : (m : ModuleId) (n : Name) (ps : List Name) → ProperPrefix ps (n ∷ []) → Leads v from (def.ModuleId m) ps None → ⊥
    one-name m n [] z l = nil-leads l
    one-name m n (p ∷ ps) (y, rest, e) l = never-empty ps y rest (let b : [] ≡ ps ++ y ∷ rest = cc in b)

    answer-last : (m : ModuleId) (n : Name) → ChainAnswer v from (def.ModuleId m) (n ∷ []) (whole (begun v.fixed.tree m (seen m n)))
    answer-last m n =
        let t = v.fixed.tree in
        record {
          filled = record {
            types = λ e. let k = kept-in-sight t from tested (v.types m n) e in (λ h. last (k.0 h), λ f. k.1 (fills-one f));
            values = λ e. let k = kept-in-sight t from tested (v.values m n) e in (λ h. last (k.0 h), λ f. k.1 (fills-one f));
            macros = λ e. let k = kept-in-sight t from tested (v.macros m n) e in (λ h. last (k.0 h), λ f. k.1 (fills-one f));
          };
          no = (λ k. absurd (yes-no k), λ g. absurd (one-name m n g.0 g.1 g.2));
          no_index = refl;
          no_flags = refl;
        }

    -- a name asked of a module of the crate
    step-on : (a m : ModuleId) (p : PerNs) (s : Types) (i : ℕ) (n : Name) (ns : List Name) → p.types ≡ Some s → s.def ≡ def.ModuleId m → v.fixed.tree.crate_of m ≡ v.fixed.tree.crate_of a
        → walk_of (sight v from) (begun v.fixed.tree a p) i (n ∷ ns) ≡ walk_of (sight v from) (begun v.fixed.tree m (seen m n)) (i + 1) ns
    unfolding walk_of
    step-on a m p s i n ns held leads home = rw (held, leads, home, eq-eqb (v.fixed.tree.crate_of a).0 (v.fixed.tree.crate_of a).0 refl)

    end-on : (m : ModuleId) (p : PerNs) (i : ℕ) → walk_of (sight v from) (begun v.fixed.tree m p) i [] ≡ whole (begun v.fixed.tree m p)
    unfolding walk_of
    end-on m p i = refl

    -- and where there is no type
    stop-on : (m : ModuleId) (p : PerNs) (i : ℕ) (n : Name) (ns : List Name) → p.types ≡ None → walk_of (sight v from) (begun v.fixed.tree m p) i (n ∷ ns) ≡ empty No
    unfolding walk_of
    stop-on m p i n ns e = rw e

    abbrev Home : ModuleId → Type 0
    Home m = v.fixed.tree.crate_of m ≡ v.fixed.tree.crate_of from

    abbrev Stays : ModuleId → List Name → Type 0
    Stays m ns = (ps : List Name) → ProperPrefix ps ns → StaysIn v from (def.ModuleId m) ps

    -- the answer to a name and those names, asked of a type that is a module of the crate
    abbrev Chains : List Name → Type 0
    Chains ns =
        (n : Name) (a m : ModuleId) (p : PerNs) (s : Types) (i : ℕ) → p.types ≡ Some s → s.def ≡ def.ModuleId m → Home a → Home m → Stays m (n ∷ ns)
        → ChainAnswer v from (def.ModuleId m) (n ∷ ns) (walk_of (sight v from) (begun v.fixed.tree a p) i (n ∷ ns))

    module _ (m : ModuleId) (n x : Name) (xs : List Name) (i : ℕ) (home : Home m) (stays : Stays m (n ∷ x ∷ xs)) (later : Chains xs) where
      abbrev rest : Answer
      rest = walk_of (sight v from) (begun v.fixed.tree m (seen m n)) i (x ∷ xs)

      into : (k : ModuleId) (s : Types) → Home k → s.def ≡ def.ModuleId k → InSight v.fixed.tree from (v.types m n) s → ChainAnswer v from (def.ModuleId m) (n ∷ x ∷ xs) rest
      into k s hk is h =
          let on : Stays k (x ∷ xs) = subst (λ (d : ModuleDefId). (ps : List Name) → ProperPrefix ps (x ∷ xs) → StaysIn v from d ps) is (stays-past m n s h (x ∷ xs) stays) in
          let held : (seen m n).types ≡ Some s = (kept-in-sight v.fixed.tree from tested (v.types m n) s).1 h in
          answer-past m n s h x xs rest
          (subst (λ (d : ModuleDefId). ChainAnswer v from d (x ∷ xs) rest) (sym is) (later x m k (seen m n) s i held is home hk on))

      lost : NoneInSight v.fixed.tree from (v.types m n) → ChainAnswer v from (def.ModuleId m) (n ∷ x ∷ xs) rest
      lost none =
          subst (ChainAnswer v from (def.ModuleId m) (n ∷ x ∷ xs)) (sym (stop-on m (seen m n) i x xs (kept-none v.fixed.tree from tested (v.types m n) none))) (answer-lost m n x xs none)

      by-first : StaysIn v from (def.ModuleId m) (n ∷ []) → ChainAnswer v from (def.ModuleId m) (n ∷ x ∷ xs) rest
      by-first (inl (k, l, hk)) = elim (leads-on l) [
        | inl g ↦ into k g.0 hk (same_Some g.0.def (def.ModuleId k) (sym (leads-nil g.2))) g.1
        | inr g ↦ absurd (none-some (def.ModuleId k) (sym g.1))
      ]
      by-first (inr l) = elim (leads-on l) [ inl g ↦ absurd (nil-leads g.2) | inr g ↦ lost g.0 ]

    walk-chain : (ns : List Name) → Chains ns
    walk-chain [] n a m p s i held leads ha hm stays =
        subst (ChainAnswer v from (def.ModuleId m) (n ∷ [])) (sym (step-on a m p s i n [] held leads (hm ∙ sym ha) ∙ end-on m (seen m n) (i + 1))) (answer-last m n)
    walk-chain (x ∷ xs) n a m p s i held leads ha hm stays =
        subst (ChainAnswer v from (def.ModuleId m) (n ∷ x ∷ xs)) (sym (step-on a m p s i n (x ∷ xs) held leads (hm ∙ sym ha)))
        (by-first m n x xs (i + 1) hm stays (walk-chain xs) (stays (n ∷ []) (x, xs, refl)))

-- a `crate` path is asked in one module only, where that is in no block
root-asked : (v : View) (q : Question) (ns : List Name) → let from = q.original_module in v.fixed.tree.block_of from ≡ None → outward v q Crate ns from ≡ root_asked v from ns from (v.fixed.tree.crate_of from)
unfolding outward_from single_of
root-asked v q ns e =
    let from = q.original_module in
    let none : None ≡ block_exit v.fixed.tree from = sym (ap (exit_of v.fixed.tree (v.fixed.tree.parent_of from)) e ∙ no-exit (v.fixed.tree.parent_of from)) in
    rw (settled_here v.fixed.tree from none, chain-end v.fixed.tree (block_exit v.fixed.tree) from none, e)
  where
    no-exit : (p : Option ModuleId) → exit_of v.fixed.tree p None ≡ None
    no-exit None = refl
    no-exit (Some p) = refl

-- the root is of the asking module's crate
home-root : (v : View) (from m : ModuleId) → StaysIn v from (def.ModuleId m) [] → v.fixed.tree.crate_of m ≡ v.fixed.tree.crate_of from
home-root v from m (inl (k, l, home)) =
    let is : def.ModuleId k ≡ def.ModuleId m = same_Some (def.ModuleId k) (def.ModuleId m) (leads-nil v from l) in
    let same : k ≡ m = cc in
    ap v.fixed.tree.crate_of (sym same) ∙ home
home-root v from m (inr l) = absurd (nil-leads v from l)

chain-of : (v : View) (q : Question) (ns : List Name) → Tested v.fixed.tree q.original_module → IsChain v q.original_module Crate ns
    → ChainAnswer v q.original_module (root_of v q.original_module) ns (outward v q Crate ns q.original_module)
chain-of v q [] tested is = absurd (is.names refl)
chain-of v q (n ∷ ns) tested is =
    let from = q.original_module in
    let c = v.fixed.tree.crate_of from in
    let root = v.fixed.tree.crate_root c in
    subst (ChainAnswer v from (root_of v from) (n ∷ ns)) (sym (root-asked v q (n ∷ ns) (is.blockless from refl)))
    (walk-chain v from tested ns n from root _ _ 0 refl refl refl (home-root v from root (is.prefixes [] (n, ns, refl))) is.prefixes)

pub chain-law : (v : View) (q : Question) (k : PathKind) (ns : List Name) (r : Result Answer PathFault) → Tested v.fixed.tree q.original_module → r ≡ answered v q k ns → IfOk r (ChainAt v q.original_module k ns)
chain-law v q k ns r tested e =
    let from = q.original_module in
    of-answer v q k ns ns r (ChainAt v from k ns) refl e (λ passed is.
    subst (λ (y : PathKind). ChainAnswer v from (root_of v from) ns (outward v q y ns from)) (sym is.crate)
    (chain-of v q ns tested (subst (λ (y : PathKind). IsChain v from y ns) is.crate is)))
