-- The laws in the small tree.
use Rattle.std.proofs.Common.{◌≡◌, ℕ, zero, suc, ◌<◌, ◌≤◌, Bool, true, false, if◌then◌else◌, ◌&&◌, ◌==◌, nat_lt, List, [], ◌∷◌, ◌++◌, slice_index_or, Option, Some, None, Ok, inl, inr, ◌↔◌, refl, sym, ap, subst, ◌∙◌, ltb-true, arith}
use Rattle.std.proofs.lemmas.Bool.{and_parts, eqb-true, false≢true}
use Rattle.std.proofs.lemmas.Option.{none-some, same_Some}
use Rattle.std.specs.List.{list_all}
use Rattle.hir_def.specs.declared.CrateId.{CrateId}
use Rattle.hir_def.specs.declared.ModuleId.{ModuleId}
use Rattle.hir_def.specs.declared.ModuleDefId.{ModuleDefId}
use Rattle.hir_def.specs.declared.ModuleDefId.TheVariants as def
use Rattle.hir_def.specs.declared.Name.{Name}
use Rattle.hir_def.specs.declared.edition.Edition.TheVariants.{Edition2015, Edition2021}
use Rattle.hir_def.specs.declared.import.ImportOrExternCrate.{ImportOrExternCrate}
use Rattle.hir_def.specs.declared.import.ImportOrExternCrate.TheVariants.{Glob, Import}
use Rattle.nameres.specs.Shapes.{TopOfCrate, Rules}
use Rattle.path_text.specs.declared.mod_path.PathKind.TheVariants.{Crate}
use Rattle.entries.specs.declared.per_ns.Item.{Item}
use Rattle.entries.specs.declared.visibility.Visibility.{Visibility}
use Rattle.entries.specs.declared.visibility.Visibility.TheVariants.{Public}
use Rattle.entries.specs.Visibilities.{Sees, visible, named, chain_of, inside, settled}
use Rattle.entries.proofs.Visible.{visible_decides}
use Rattle.item_scope.specs.InTurn.InTurn.{done, next}
use Rattle.item_scope.specs.declared.index_data.EnumVariant.{EnumVariant}
use Rattle.item_scope.specs.declared.place.Place.{Place}
use Rattle.item_scope.specs.declared.place.Place.TheVariants.{ByName}
use Rattle.item_scope.specs.Deliveries.{answer_of, any_changed, delivered, refused, type_tests, value_tests, macro_tests}
use Rattle.item_scope.specs.Globs.{wide_glob, narrow_glob, by_glob}
use Rattle.item_scope.specs.IndexData.{SoundData, def_in, item_in}
use Rattle.item_scope.specs.Places.{Tests, is_empty}
use Rattle.item_scope.specs.Views.{View, Types, Values, PlacesIn, place_in as holder_in}
use Rattle.path_resolution.specs.declared.answer.ReachedFixedPoint.{ReachedFixedPoint}
use Rattle.path_resolution.specs.declared.answer.ReachedFixedPoint.TheVariants.{Yes, No}
use Rattle.path_resolution.specs.declared.answer.ResolvePathResult.{ResolvePathResult as Answer}
use Rattle.path_resolution.specs.Outward.{outward_from}
use Rattle.path_resolution.specs.Questions.{answered}
use Rattle.path_resolution.specs.Singles.{single_of}
use Rattle.path_resolution.specs.SmallTree.{Row, place_in, types_rows, values_rows, small_shape, small_data, small_tree, module_at, module_def, private_to, asked_in}
use Rattle.path_resolution.specs.Walks.{walk_of}
use Rattle.runs.specs.Chains.{InSight, NoneInSight, Leads, Fills, ProperPrefix, StaysIn, IsChain, ChainAnswer, root_of}
use Rattle.runs.specs.Chains.Leads.{here, through, nowhere}
use Rattle.runs.specs.Order.{Agree}
use Rattle.runs.specs.declared.calls.Call.TheVariants.{Deliver}
use Rattle.runs.specs.Runs.{State, state, Did, Ran}
use Rattle.runs.specs.SmallTree.{Lawful, names, Decides, Chains, Hides, brings_g, Reorders}
use Rattle.runs.specs.Spaces as space
use Rattle.runs.proofs.Chained.{never-empty, chain-law}
use Rattle.runs.proofs.Sighted.{Tested}

-- the parents, by the numbers of modules
abbrev up : ℕ → Option ModuleId
up n = slice_index_or (None ∷ Some (module_at 0) ∷ Some (module_at 1) ∷ Some (module_at 0) ∷ []) n None

past-end : (n : ℕ) → 4 ≤ n → up n ≡ None
past-end zero h = refl
past-end (suc zero) h = absurd (omega arith)
past-end (suc (suc zero)) h = absurd (omega arith)
past-end (suc (suc (suc zero))) h = absurd (omega arith)
past-end (suc (suc (suc (suc n)))) h = refl

lower : (n : ℕ) (p : ModuleId) → up n ≡ Some p → (p.0 < 4) × (p.0 < n)
lower zero p e = absurd (none-some p e)
lower (suc zero) p e = subst (λ (m : ModuleId). (m.0 < 4) × (m.0 < 1)) (same_Some (module_at 0) p e) (omega arith, omega arith)
lower (suc (suc zero)) p e = subst (λ (m : ModuleId). (m.0 < 4) × (m.0 < 2)) (same_Some (module_at 1) p e) (omega arith, omega arith)
lower (suc (suc (suc zero))) p e = subst (λ (m : ModuleId). (m.0 < 4) × (m.0 < 3)) (same_Some (module_at 0) p e) (omega arith, omega arith)
lower (suc (suc (suc (suc n)))) p e = absurd (none-some p e)

top : (n : ℕ) → n < 4 → up n ≡ None → n ≡ 0
top zero h e = refl
top (suc zero) h e = absurd (none-some (module_at 0) (sym e))
top (suc (suc zero)) h e = absurd (none-some (module_at 1) (sym e))
top (suc (suc (suc zero))) h e = absurd (none-some (module_at 0) (sym e))
top (suc (suc (suc (suc n)))) h e = absurd (omega arith)

small-top : (c : CrateId) → c.0 < 1 → (m : ModuleId) → TopOfCrate small_shape c m ↔ (m ≡ module_at 0)
small-top c h m = (
  λ t. let e : m.0 ≡ 0 = top m.0 t.exists t.orphan in λ i. record { 0 = e i },
  λ e. subst (TopOfCrate small_shape c) (sym e) (let z : 0 ≡ c.0 = omega arith in record { exists = omega arith; crate = λ i. record { 0 = z i }; blockless = refl; orphan = refl }),
)

small-edition : (n : ℕ) → 1 ≤ n → (b : Bool) → (n == 0) ≡ b → (if b then Edition2021 else Edition2015) ≡ Edition2015
small-edition n h true e = absurd (let z : n ≡ 0 = eqb-true n 0 e in omega arith)
small-edition n h false e = refl

small-rules : Rules small_shape (λ m. m.0)
small-rules = record {
  few-modules = omega arith;
  few-blocks = omega arith;
  few-crates = omega arith;
  crate = λ m h. omega arith;
  block = λ m b e. absurd (none-some b e);
  ranked = λ m h. h;
  parent = λ m p e. let l = lower m.0 p e in record { exists = l.0; lower = l.1; crate = refl; block = refl };
  outside = λ b h. absurd (let z : b.0 < 0 = h in omega arith);
  crate-root = small-top;
  block-root = λ b h. absurd (let z : b.0 < 0 = h in omega arith);
  bounded = record {
    crates-of = λ m h. refl;
    blocks-of = λ m h. refl;
    parents-of = λ m h. past-end m.0 h;
    block-roots = λ b h. refl;
    outsides = λ b h. refl;
    crate-roots = λ c h. refl;
    editions = λ c h. small-edition c.0 h (c.0 == 0) refl;
  };
}

small-variant : (e n : ℕ) (x : EnumVariant) (b : Bool) → (e == 0 && n == 26) ≡ b
    → (if b then Some (record { variant = record { 0 = 0 }; has_constructor = true }) else None) ≡ Some x → (e < 1) × (n < 27)
small-variant e n x true is told =
    let p = and_parts (e == 0) (n == 26) is in
    let first : e ≡ 0 = eqb-true e 0 p.0 in
    let last : n ≡ 26 = eqb-true n 26 p.1 in
    (omega arith, omega arith)
small-variant e n x false is told = absurd (none-some x told)

small-sound : SoundData small_data
small-sound = record {
  few_names = omega arith;
  extern_prelude = λ c n e is. absurd (none-some e is);
  macro_use = λ m n u is. absurd (none-some u is);
  prelude = λ m p is. absurd (none-some p is);
  legacy = λ m n d is. absurd (none-some d is);
  variant = λ e n x is. small-variant e.0 n.0 x (e.0 == 0 && n.0 == 26) refl is;
  styles = λ m past. refl;
}

-- whether the numbers of a row exist: those of its module and its name, and those in its entry
abbrev row_in : Row → Bool
row_in r = (nat_lt r.in_module 4 && nat_lt r.name 27) && (def_in small_data r.def && named small_shape r.vis)

-- then those of what rows hold do
module _ {M : Type 0} (glob : M → Bool) where
  abbrev row_place : Row → Place (Item ModuleDefId M)
  row_place r = ByName (record { def = r.def; vis = r.vis; import = None })

  known-in : (rows : List Row) → list_all row_in rows ≡ true → (m : ModuleId) (n : Name) → is_empty (place_in {M = M} rows m n) ≡ false
      → (m.0 < 4) × (n.0 < 27)
  known-in [] all m n held = absurd (false≢true (sym held))
  known-in (r ∷ rows) all m n held =
      let p = and_parts (row_in r) _ all in
      let few = and_parts (nat_lt r.in_module 4) _ (and_parts (nat_lt r.in_module 4 && nat_lt r.name 27) _ p.0).0 in
      let P : Bool → Type 0 = λ b. (m.0 == r.in_module && n.0 == r.name) ≡ b → is_empty (if b then row_place r else place_in rows m n) ≡ false → (m.0 < 4) × (n.0 < 27) in
      elim (m.0 == r.in_module && n.0 == r.name) as P [
        | true ↦ λ e h.
            let q = and_parts (m.0 == r.in_module) _ e in
            let same_module : m.0 ≡ r.in_module = eqb-true _ _ q.0 in
            let same_name : n.0 ≡ r.name = eqb-true _ _ q.1 in
            let few_modules : r.in_module < 4 = ltb-true _ _ few.0 in
            let few_names : r.name < 27 = ltb-true _ _ few.1 in
            (omega arith, omega arith)
        | false ↦ λ e h. known-in rows p.1 m n h
      ] refl held

  holders-in : (rows : List Row) → list_all row_in rows ≡ true → (m : ModuleId) (n : Name)
      → holder_in (item_in def_in small_data) (λ (e : Item ModuleDefId M). by_glob glob e.import) (place_in rows m n) ≡ true
  holders-in [] all m n = refl
  holders-in (r ∷ rows) all m n =
      let p = and_parts (row_in r) _ all in
      let exists = (and_parts (nat_lt r.in_module 4 && nat_lt r.name 27) _ p.0).1 in
      let P : Bool → Type 0 = λ b. holder_in (item_in def_in small_data) (λ (e : Item ModuleDefId M). by_glob glob e.import) (if b then row_place r else place_in rows m n) ≡ true in
      elim (m.0 == r.in_module && n.0 == r.name) as P [
        | true ↦ ap (λ (b : Bool). b && true) exists
        | false ↦ holders-in rows p.1 m n
      ]

  rows-in : (rows : List Row) → list_all row_in rows ≡ true → PlacesIn 4 27 (item_in def_in small_data) (λ (e : Item ModuleDefId M). by_glob glob e.import) (place_in rows)
  rows-in rows all = record { known = known-in rows all; holders = holders-in rows all }

pub lawful : Lawful
unfolding small_tree
lawful = record {
  ruled = small-rules;
  sound = record {
    fixed = small-sound;
    types = rows-in wide_glob types_rows refl;
    values = rows-in narrow_glob values_rows refl;
    macros = record { known = λ m n held. absurd (false≢true (sym held)); holders = λ m n. refl };
  };
}

tested : (from : ModuleId) → Tested small_shape from
tested from = visible_decides small_shape (λ m. m.0) small-rules from

-- what a law of chains says of an answer is said of no other
one-part : {E : Type 0} (P : E → Type 0) (a b : Option E) → ((e : E) → (a ≡ Some e) ↔ P e) → ((e : E) → (b ≡ Some e) ↔ P e) → b ≡ a
one-part P None None f g = refl
one-part P None (Some y) f g = sym ((f y).1 ((g y).0 refl))
one-part P (Some x) b f g = (g x).1 ((f x).0 refl)

one-status : {P : Type 0} (a b : ReachedFixedPoint) → (a ≡ No) ↔ P → (b ≡ No) ↔ P → b ≡ a
one-status No b f g = g.1 (f.0 refl)
one-status Yes Yes f g = refl
one-status Yes No f g = sym (f.1 (g.0 refl))

one-answer : (v : View) (from : ModuleId) (start : ModuleDefId) (ns : List Name) (a b : Answer) → ChainAnswer v from start ns a → ChainAnswer v from start ns b → b ≡ a
one-answer v from start ns a b f g = λ i. record {
  resolved_def = record {
    types = one-part (Fills space.types v from start ns) a.resolved_def.types b.resolved_def.types f.filled.types g.filled.types i;
    values = one-part (Fills space.values v from start ns) a.resolved_def.values b.resolved_def.values f.filled.values g.filled.values i;
    macros = one-part (Fills space.macros v from start ns) a.resolved_def.macros b.resolved_def.macros f.filled.macros g.filled.macros i;
  };
  segment_index = (g.no_index ∙ sym f.no_index) i;
  reached_fixedpoint = one-status a.reached_fixedpoint b.reached_fixedpoint f.no g.no i;
  prefix_info = (g.no_flags ∙ sym f.no_flags) i;
}

-- the prefixes of names, by what their first step shows
module _ (from m : ModuleId) where
  abbrev Stays : ModuleId → List Name → Type 0
  Stays k ns = (ps : List Name) → ProperPrefix ps ns → StaysIn small_tree from (def.ModuleId k) ps

  stays-last : (x : Name) → Stays m (x ∷ [])
  unfolding small_tree
  stays-last x [] z = inl (m, here, refl)
  stays-last x (p ∷ ps) (y, rest, e) = absurd (never-empty ps y rest (let b : [] ≡ ps ++ y ∷ rest = cc in b))

  stays-lost : (x : Name) (ns : List Name) → NoneInSight small_tree.fixed.tree from (small_tree.types m x) → Stays m (x ∷ ns)
  unfolding small_tree
  stays-lost x ns none [] z = inl (m, here, refl)
  stays-lost x ns none (p ∷ ps) (y, rest, e) =
      let a : x ≡ p = cc in
      inr (subst (λ (w : Name). Leads small_tree from (def.ModuleId m) (w ∷ ps) None) a (nowhere none))

  stays-into : (x : Name) (s : Types) (k : ModuleId) (ns : List Name) → InSight small_tree.fixed.tree from (small_tree.types m x) s → s.def ≡ def.ModuleId k → Stays k ns → Stays m (x ∷ ns)
  unfolding small_tree
  stays-into x s k ns h is rest [] z = inl (m, here, refl)
  stays-into x s k ns h is rest (p ∷ ps) (y, more, e) =
      let a : x ≡ p = cc in
      let b : ns ≡ ps ++ y ∷ more = cc in
      elim (rest ps (y, more, b)) [ inl g ↦ inl (g.0, goes a (Some (def.ModuleId g.0)) g.1, g.2) | inr g ↦ inr (goes a None g) ]
    where
      goes : x ≡ p → (o : Option ModuleDefId) → Leads small_tree from (def.ModuleId k) ps o → Leads small_tree from (def.ModuleId m) (p ∷ ps) o
      goes a o l = subst (λ (w : Name). Leads small_tree from (def.ModuleId m) (w ∷ ps) o) a (through h (subst (λ (d : ModuleDefId). Leads small_tree from d ps o) (sym is) l))

decides : (ns : List ℕ) (m : ℕ) (a : Answer) → IsChain small_tree (module_at m) Crate (names ns) → answered small_tree (asked_in m) Crate (names ns) ≡ Ok a → Decides ns m a
unfolding small_tree
decides ns m a is e =
    let from = module_at m in
    let start = root_of small_tree from in
    let holds : ChainAnswer small_tree from start (names ns) a = chain-law small_tree (asked_in m) Crate (names ns) (Ok a) (tested from) (sym e) is in
    record { is_chain = is; holds = holds; only = λ b g. one-answer small_tree from start (names ns) a b holds g }

-- the entries that the paths pass
abbrev entry : ℕ → Visibility → Types
entry m vis = record { def = module_def m; vis = vis; import = None }

abbrev name : ℕ → Name
name n = record { 0 = n }

unseen : (vis : Visibility) (from : ModuleId) → visible small_shape from vis ≡ false → Sees small_shape from vis → ⊥
unseen vis from e s = false≢true (sym e ∙ (tested from vis).1 s)

a-from : (m : ℕ) → visible small_shape (module_at m) (private_to 0) ≡ true → InSight small_tree.fixed.tree (module_at m) (small_tree.types (module_at 0) (name 20)) (entry 1 (private_to 0))
unfolding small_tree
a-from m e = record { holds = refl; visible = (tested (module_at m) (private_to 0)).0 e }

b-from-a : InSight small_tree.fixed.tree (module_at 1) (small_tree.types (module_at 1) (name 21)) (entry 2 (private_to 1))
unfolding small_tree chain_of inside settled
b-from-a = record { holds = refl; visible = (tested (module_at 1) (private_to 1)).0 refl }

c-from-c : InSight small_tree.fixed.tree (module_at 3) (small_tree.types (module_at 0) (name 22)) (entry 3 (private_to 0))
unfolding small_tree chain_of inside settled
c-from-c = record { holds = refl; visible = (tested (module_at 3) (private_to 0)).0 refl }

no-b-from-c : NoneInSight small_tree.fixed.tree (module_at 3) (small_tree.types (module_at 1) (name 21))
unfolding small_tree chain_of inside settled
no-b-from-c e g = unseen e.vis (module_at 3) (ap (λ (x : Types). visible small_shape (module_at 3) x.vis) (sym (same_Some (entry 2 (private_to 1)) e g.holds))) g.visible

chain-in-small : (m : ℕ) (n : ℕ) (ns : List ℕ) → Stays (module_at m) (module_at 0) (module_at 0) (names (n ∷ ns)) → IsChain small_tree (module_at m) Crate (names (n ∷ ns))
unfolding small_tree
chain-in-small m n ns stays = record { crate = refl; names = λ e. cc; blockless = λ k e. refl; prefixes = stays }

pub chains : Chains
unfolding small_tree chain_of inside settled outward_from single_of walk_of
chains = record {
  a = decides (20 ∷ []) 3 _ (chain-in-small 3 20 [] (stays-last (module_at 3) (module_at 0) (name 20))) refl;
  a-f_hidden = decides (20 ∷ 24 ∷ []) 3 _ (chain-in-small 3 20 (24 ∷ []) (through-a 3 refl)) refl;
  a-f = decides (20 ∷ 24 ∷ []) 2 _ (chain-in-small 2 20 (24 ∷ []) (through-a 2 refl)) refl;
  a-b-f_hidden = decides (20 ∷ 21 ∷ 24 ∷ []) 3 _ (chain-in-small 3 20 (21 ∷ 24 ∷ []) past-a) refl;
  a-b-f = decides (20 ∷ 21 ∷ 24 ∷ []) 1 _ (chain-in-small 1 20 (21 ∷ 24 ∷ []) past-b) refl;
  c-g_hidden = decides (22 ∷ 25 ∷ []) 3 _ (chain-in-small 3 22 (25 ∷ []) past-c) refl;
}
  where
    through-a : (m : ℕ) → visible small_shape (module_at m) (private_to 0) ≡ true → Stays (module_at m) (module_at 0) (module_at 0) (names (20 ∷ 24 ∷ []))
    through-a m e =
        stays-into (module_at m) (module_at 0) (name 20) (entry 1 (private_to 0)) (module_at 1) (names (24 ∷ [])) (a-from m e) refl (stays-last (module_at m) (module_at 1) (name 24))

    past-a : Stays (module_at 3) (module_at 0) (module_at 0) (names (20 ∷ 21 ∷ 24 ∷ []))
    past-a =
        stays-into (module_at 3) (module_at 0) (name 20) (entry 1 (private_to 0)) (module_at 1) (names (21 ∷ 24 ∷ [])) (a-from 3 refl) refl
        (stays-lost (module_at 3) (module_at 1) (name 21) (names (24 ∷ [])) no-b-from-c)

    past-b : Stays (module_at 1) (module_at 0) (module_at 0) (names (20 ∷ 21 ∷ 24 ∷ []))
    past-b =
        stays-into (module_at 1) (module_at 0) (name 20) (entry 1 (private_to 0)) (module_at 1) (names (21 ∷ 24 ∷ [])) (a-from 1 refl) refl
        (stays-into (module_at 1) (module_at 1) (name 21) (entry 2 (private_to 1)) (module_at 2) (names (24 ∷ [])) b-from-a refl
        (stays-last (module_at 1) (module_at 2) (name 24)))

    past-c : Stays (module_at 3) (module_at 0) (module_at 0) (names (22 ∷ 25 ∷ []))
    past-c =
        stays-into (module_at 3) (module_at 0) (name 22) (entry 3 (private_to 0)) (module_at 3) (names (25 ∷ [])) c-from-c refl (stays-last (module_at 3) (module_at 3) (name 25))

pub hides : Hides
unfolding small_tree chain_of inside settled
hides = record {
  is_hidden = record {
    types = λ e h. absurd (none-some e h);
    values = λ e h. (refl, unseen e.vis (module_at 3) (ap (λ (x : Values). visible small_shape (module_at 3) x.vis) (sym (same_Some _ e h))));
    macros = λ e h. absurd (none-some e h);
  };
  is_taken = refl;
}

-- what a place takes of the two deliveries, by whether it is theirs
agree : (theirs : Bool) (e f : Values) (began : Place Values) → value_tests.glob e ≡ true → value_tests.glob f ≡ false
    → Agree value_tests began ((if theirs then e ∷ [] else []) ++ ((if theirs then f ∷ [] else []) ++ [])) ((if theirs then f ∷ [] else []) ++ ((if theirs then e ∷ [] else []) ++ []))
agree true e f began g h = record { by_name = rw (g, h); globs = rw (g, h) (λ b z. cc) }
agree false e f began g h = record { by_name = refl; globs = λ b z. refl }

agree-none : {T : Type 0} (t : Tests T) (theirs : Bool) (began : Place T)
    → Agree t began ((if theirs then [] else []) ++ ((if theirs then [] else []) ++ [])) ((if theirs then [] else []) ++ ((if theirs then [] else []) ++ []))
agree-none t theirs began = record { by_name = refl; globs = λ b z. refl }

-- one of them is made
g-comes : (v : View) (left f : ℕ) (i : ImportOrExternCrate) (changed : Bool) → let d = brings_g f Public i in
    Ok changed ≡ answer_of (refused v (suc left) d) (any_changed v d) → Did (state v (suc left)) (Deliver d (Some (Ok changed))) (state (delivered v d) left)
g-comes v left f i changed e = record { answers = e; after = refl; falls = omega arith; spares = omega arith }

two-come : (v : View) (f g : ℕ) (i j : ImportOrExternCrate) (a b : Bool) → let d = brings_g f Public i in let h = brings_g g Public j in
    Ok a ≡ answer_of (refused v 2 d) (any_changed v d) → Ok b ≡ answer_of (refused (delivered v d) 1 h) (any_changed (delivered v d) h)
    → (t : State) × Ran (state v 2) (Deliver d (Some (Ok a)) ∷ Deliver h (Some (Ok b)) ∷ []) t
two-come v f g i j a b e k =
    let d = brings_g f Public i in
    let h = brings_g g Public j in (
      state (delivered (delivered v d) h) 0,
      next {y = state (delivered v d) 1} (g-comes v 1 f i a e) (next {y = state (delivered (delivered v d) h) 0} (g-comes (delivered v d) 0 g j b k) done),
    )

pub reorders : Reorders
unfolding small_tree
reorders = record {
  globs_before_names = two-come small_tree 12 13 (Glob (record { 0 = 0 })) (Import (record { 0 = 1 })) true true refl refl;
  names_before_globs = two-come small_tree 13 12 (Import (record { 0 = 1 })) (Glob (record { 0 = 0 })) true false refl refl;
  take_the_same = record {
    types = λ m n. agree-none type_tests (m.0 == 1 && n.0 == 25) _;
    values = λ m n. agree (m.0 == 1 && n.0 == 25) _ _ _ refl refl;
    macros = λ m n. agree-none macro_tests (m.0 == 1 && n.0 == 25) _;
  };
}
