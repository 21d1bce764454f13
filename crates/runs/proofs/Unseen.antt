-- The hidden law: a path that names its start reads places only as its asking module sees them, and a delivery that is hidden from
-- there changes nothing of that.
use Rattle.std.proofs.Common.{◌≡◌, Bool, true, false, ◌&&◌, ◌==◌, if◌then◌else◌, List, is_some, Some, None, Option, Ok, Err, Result, refl, sym, ap, ◌∙◌, subst, arith}
use Rattle.std.specs.List.{fold}
use Rattle.std.proofs.lemmas.Bool.{and_parts, eqb-true, false≢true}
use Rattle.hir_def.specs.declared.BlockId.{BlockId}
use Rattle.hir_def.specs.declared.CrateId.{CrateId}
use Rattle.hir_def.specs.declared.ModuleId.{ModuleId}
use Rattle.hir_def.specs.declared.Name.{Name}
use Rattle.nameres.specs.Shapes.{block_exit}
use Rattle.hir_def.specs.declared.fault.IndexFault.{IndexFault}
use Rattle.hir_def.specs.declared.fault.PathFault.{PathFault}
use Rattle.path_text.specs.declared.mod_path.ModPath.{ModPath}
use Rattle.path_text.specs.declared.mod_path.PathKind.{PathKind}
use Rattle.path_text.specs.declared.mod_path.PathKind.TheVariants.{Plain, Super, Crate, Abs, DollarCrate}
use Rattle.entries.specs.declared.per_ns.Item.{Item}
use Rattle.entries.specs.Entries.{kept}
use Rattle.entries.specs.Visibilities.{Sees, chain_of, settled}
use Rattle.item_scope.specs.declared.delivery.Delivery.{Delivery}
use Rattle.item_scope.specs.declared.place.Place.{Place}
use Rattle.item_scope.specs.declared.place.Place.TheVariants.{Empty}
use Rattle.item_scope.specs.contracts.index_data.DefMapIdPartialEq.TheImpl.{eq-value as same_map}
use Rattle.item_scope.specs.Deliveries.{brought, delivered, arrived}
use Rattle.item_scope.specs.Places.{holder, stepped}
use Rattle.item_scope.specs.Views.{View, Places}
use Rattle.path_resolution.specs.declared.answer.ReachedFixedPoint.TheVariants.{Yes}
use Rattle.path_resolution.specs.declared.answer.ResolvePathResult.{ResolvePathResult as Answer}
use Rattle.path_resolution.specs.declared.question.Question.{Question}
use Rattle.path_resolution.specs.Answers.{empty, merged}
use Rattle.path_resolution.specs.Outward.{unasked, joined_to, with_preludes, outward, outward_from}
use Rattle.path_resolution.specs.Questions.{refusal_of, unless_refused, answered}
use Rattle.path_resolution.specs.Shown.{names_its_start}
use Rattle.path_resolution.specs.Singles.{goes_on, root_asked, super_asked, single_of, preludes_of}
use Rattle.path_resolution.specs.Starts.{start_at, map_of, super_of}
use Rattle.path_resolution.specs.Walks.{Sight, sight, walk_of}
use Rattle.runs.specs.declared.calls.Call.TheVariants.{Deliver}
use Rattle.runs.specs.Hidden.{IsHidden, HiddenLaw}
use Rattle.runs.specs.Runs.{told}
use Rattle.runs.specs.Spaces.{Space}
use Rattle.runs.specs.Spaces as space
use Rattle.runs.proofs.Sighted.{Tested}

-- a place is its module's and its name's
here : {T : Type 0} (f : Places T) (a b : ModuleId) (m n : Name) → (a.0 == b.0 && m.0 == n.0) ≡ true → f a m ≡ f b n
here f a b m n e =
    let z = and_parts (a.0 == b.0) (m.0 == n.0) e in
    λ i. f (record { 0 = eqb-true a.0 b.0 z.0 i }) (record { 0 = eqb-true m.0 n.0 z.1 i })

module _ (v : View) (from : ModuleId) (d : Delivery) (tested : Tested v.fixed.tree from) where
  abbrev seen : {D M : Type 0} → Place (Item D M) → Option (Item D M)
  seen p = kept v.fixed.tree from (holder p)

  -- what is seen of an empty place to which a hidden entry has come
  came : {D M : Type 0} (sp : Space D M) (p : Place (Item D M)) (e : Item D M) → p ≡ Empty → (Sees v.fixed.tree from e.vis → ⊥) → seen (stepped sp.tests p e).place ≡ seen p
  came sp p e h n = grind (arith, tested)

  looks : {D M : Type 0} (sp : Space D M) (o : Option (Item D M))
      → ((e : Item D M) → o ≡ Some e → (sp.places v d.receiver d.name ≡ Empty) × (Sees v.fixed.tree from e.vis → ⊥))
      → (m : ModuleId) (n : Name) → seen (arrived sp.tests (sp.places v) d.receiver d.name o m n) ≡ seen (sp.places v m n)
  looks sp None h m n = refl
  looks {D} {M} sp (Some e) h m n = by-place (m.0 == d.receiver.0 && n.0 == d.name.0) refl
    where
      by-place : (b : Bool) → (m.0 == d.receiver.0 && n.0 == d.name.0) ≡ b → seen (if b then (stepped sp.tests (sp.places v m n) e).place else sp.places v m n) ≡ seen (sp.places v m n)
      by-place true z = came sp (sp.places v m n) e (here (sp.places v) m d.receiver n d.name z ∙ (h e refl).0) (h e refl).1
      by-place false z = refl

  -- what the module sees after a delivery that is hidden from it
  same-sight : IsHidden v from d → sight (delivered v d) from ≡ sight v from
  same-sight hides = λ i. record {
    tree = v.fixed.tree;
    variant = v.fixed.variant;
    sees = λ m n. record {
      types = looks space.types (brought d).types hides.types m n i;
      values = looks space.values (brought d).values hides.values m n i;
      macros = looks space.macros (brought d).macros hides.macros m n i;
    };
  }

-- a question whose asking module sees the same after the delivery
module _ (v : View) (d : Delivery) (q : Question) (ns : List Name) (sees : sight (delivered v d) q.original_module ≡ sight v q.original_module) where
  abbrev later : View
  later = delivered v d

  abbrev from : ModuleId
  from = q.original_module

  same-super : (m : ModuleId) (o : Option ModuleId) → super_asked later from ns m o ≡ super_asked v from ns m o
  same-super m None = refl
  same-super m (Some at) = ap by-sight sees
    where
      own : Sight → Answer
      own s = walk_of s (start_at v.fixed.tree at at) 0 ns

      by-sight : Sight → Answer
      by-sight s =
          if same_map.it (map_of v.fixed.tree at) (map_of v.fixed.tree m) then walk_of s (start_at v.fixed.tree m at) 0 ns
          else if is_some (v.fixed.tree.block_of at) then merged (own s) (empty Yes)
          else own s

  same-root : (c : CrateId) (m : ModuleId) → root_asked later from ns m c ≡ root_asked v from ns m c
  same-root c m = ap (λ (s : Sight). walk_of s (start_at v.fixed.tree m (v.fixed.tree.crate_root c)) 0 ns) sees

  same-single : (k : PathKind) (m : ModuleId) → names_its_start k ≡ true → single_of later q k ns m ≡ single_of v q k ns m
  unfolding single_of
  same-single Plain m e = absurd (false≢true e)
  same-single Abs m e = absurd (false≢true e)
  same-single Crate m e = ap goes_on (same-root (v.fixed.tree.crate_of m) m)
  same-single (DollarCrate c) m e = ap goes_on (same-root c m)
  same-single (Super level) m e = ap goes_on (same-super m (super_of v.fixed.tree level m))

  same-preludes : (k : PathKind) (m : ModuleId) → names_its_start k ≡ true → preludes_of later q k ns m ≡ preludes_of v q k ns m
  unfolding preludes_of
  same-preludes Plain m e = absurd (false≢true e)
  same-preludes Abs m e = absurd (false≢true e)
  same-preludes Crate m e = refl
  same-preludes (DollarCrate c) m e = refl
  same-preludes (Super level) m e = refl

  module _ (k : PathKind) (starts : names_its_start k ≡ true) where
    same-last : (b : Option BlockId) → with_preludes later q k ns b ≡ with_preludes v q k ns b
    same-last None = refl
    same-last (Some b) = λ i a. if a.is_final then a.answer else merged a.answer (same-preludes k (v.fixed.tree.block_root b) starts i)

    same-outward : outward later q k ns from ≡ outward v q k ns from
    unfolding outward_from
    same-outward = λ i.
        let t = v.fixed.tree in
        same-last (t.block_of (settled t from)) i
        (fold (λ a m. if a.is_final then a else joined_to a (same-single k m starts i)) unasked (chain_of t (block_exit t) from))

module _ (v : View) (from : ModuleId) (d : Delivery) (tested : Tested v.fixed.tree from) (hides : IsHidden v from d) where
  abbrev Alike : View → Type 0
  Alike w = (q : Question) (k : PathKind) (ns : List Name) → q.original_module ≡ from → names_its_start k ≡ true → answered v q k ns ≡ answered w q k ns

  alike-taken : Alike (delivered v d)
  alike-taken q k ns is starts =
      let sees : sight (delivered v d) q.original_module ≡ sight v q.original_module = subst (λ (m : ModuleId). sight (delivered v d) m ≡ sight v m) (sym is) (same-sight v from d tested hides) in
      ap (unless_refused (refusal_of v q k ns)) (sym (same-outward v d q ns sees k starts))

  -- a delivery, taken or refused
  alike-told : (r : Result Bool IndexFault) → Alike (told v (Deliver d (Some r)))
  alike-told (Ok changed) = alike-taken
  alike-told (Err f) = λ q k ns is starts. refl

pub hidden-law : (v w : View) (d : Delivery) (done : Result Bool IndexFault) (q : Question) (path : ModPath) (r s : Result Answer PathFault) → Tested v.fixed.tree q.original_module
    → w ≡ told v (Deliver d (Some done)) → r ≡ answered v q path.kind path.names.items → s ≡ answered w q path.kind path.names.items → HiddenLaw v d w q path r s
hidden-law v w d done q path r s tested is a b hides =
    let from = q.original_module in
    let alike : Alike v from d tested hides w = subst (λ z. Alike v from d tested hides z) (sym is) (alike-told v from d tested hides done) in
    record { answers = alike; asked = λ starts. a ∙ alike q path.kind path.names.items refl starts ∙ sym b }
