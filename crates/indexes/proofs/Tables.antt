-- Rows of a table into which an entry comes.
use Rattle.std.proofs.Common.{◌≡◌, ◌+◌, ◌<◌, Bool, true, false, not, if◌then◌else◌, List, [], ◌∷◌, length, drop, is_some, Some, None, Option, Ok, Err, Result, IfOk, OnOk, OnErr, IsErr, IsNone, ◌↔◌, refl, sym, ap, subst, ◌∙◌, arith, rules}
use Rattle.std.specs.Cmp.{IsEquivalence}
use Rattle.std.proofs.lemmas.Bool.{and_parts, and_from}
use Rattle.hir_def.specs.declared.ModuleId.{ModuleId}
use Rattle.hir_def.specs.declared.Name.{Name}
use Rattle.item_scope.specs.declared.place.Place.{Place}
use Rattle.item_scope.specs.declared.place.Place.TheVariants.{Empty}
use Rattle.item_scope.specs.declared.steps.Stepped.{Stepped}
use Rattle.item_scope.specs.Places.{Tests, held, stepped, is_empty}
use Rattle.keyed.specs.declared.row.Row.{Row}
use Rattle.keyed.specs.declared.table.Full.{Full}
use Rattle.keyed.specs.Entries.{Contents, find, put}
use Rattle.keyed.proofs.Finds.{find_put}
use Rattle.index_tables.proofs.Sound.{found_exist}
use Rattle.indexes.specs.declared.entry.Entry.{Entry}
use Rattle.indexes.specs.declared.entry.PlaceKey.{PlaceKey}
use Rattle.indexes.specs.contracts.entry.PlaceKeyPartialEq.TheImpl.{eq-value as same_key}
use Rattle.indexes.specs.Spaces.{Space}
use Rattle.indexes.specs.Told.{SpaceLaws, key, next}
use Rattle.indexes.specs.Storing.{told_of, Comes}
use Rattle.indexes.specs.Table.{one_or_none, table_storing}
use Rattle.indexes.specs.Fitting.{is_of, all_of}

laws : IsEquivalence same_key.it
laws = search rules

exact : (a b : PlaceKey) → same_key.it a b ≡ true → a ≡ b
exact a b e = search rules

length_put : {K V : Type 0} (eq : K → K → Bool) (rows : List (Row K V)) (k : K) (v : V) → length (put eq rows k v) ≡ length rows + (if is_some (find eq rows k) then 0 else 1)
length_put eq [] k v = refl
length_put eq (r ∷ rows) k v = grind (arith, length_put eq rows k v)

pub put_fits : (rows : List (Row PlaceKey Entry)) (k : PlaceKey) (e : Entry) → all_of rows ≡ true → is_of k e ≡ true → all_of (put same_key.it rows k e) ≡ true
put_fits [] k e all fits = and_from _ _ fits refl
put_fits (r ∷ rows) k e all fits =
    let p = and_parts (is_of r.key r.value) (all_of rows) all in
    elim (same_key.it r.key k) as (λ b. same_key.it r.key k ≡ b → all_of (if b then record { key = r.key; value = e } ∷ rows else r ∷ put same_key.it rows k e) ≡ true) [
      | true ↦ λ is. and_from _ _ (subst (λ q. is_of q e ≡ true) (sym (exact r.key k is)) fits) p.1
      | false ↦ λ is. and_from _ _ p.0 (put_fits rows k e p.1 fits)
    ] refl

module _ {T : Type 0} (t : Tests T) where
  held_by_any : (e : T) (glob : Bool) → t.glob e ≡ glob → is_empty (held t e) ≡ false
  held_by_any e true is = rw is refl
  held_by_any e false is = rw is refl

module _ {T : Type 0} (space : Space T) (laws_of : SpaceLaws space) where
  filled_by : (e : Entry) (x : Option T) → space.of e ≡ x → is_some x ≡ true → is_empty (next space Empty e) ≡ false
  filled_by e (Some x) is some = rw is (held_by_any space.tests x (space.tests.glob x) refl)
  filled_by e None is some = absurd (cc)

  -- a place has a row exactly if it is held
  pub has_row : (rows : List (Row PlaceKey Entry)) (m : ModuleId) (n : Name) → all_of rows ≡ true → is_empty (told_of table_storing space rows m n) ≡ not (is_some (find same_key.it rows (key space.namespace m n)))
  has_row rows m n all = by_row (find same_key.it rows (key space.namespace m n)) refl
    where
      by_row : (o : Option Entry) → find same_key.it rows (key space.namespace m n) ≡ o → is_empty (told_of table_storing space rows m n) ≡ not (is_some o)
      by_row None is = rw is refl
      by_row (Some e) is =
          let fits : is_of (key space.namespace m n) e ≡ true = found_exist same_key.it exact is_of rows (key space.namespace m n) e all is in
          rw is (filled_by e (space.of e) refl (laws_of.own e ∙ fits))

  one_row : (b : Bool) (free : List (Row PlaceKey Entry)) → (if b then free else drop 1 free) ≡ drop (if not b then 1 else 0) free
  one_row true free = refl
  one_row false free = refl

  one_less : (b : Bool) (free : List (Row PlaceKey Entry)) → 0 < length free → length free ≡ length (drop (if not b then 1 else 0) free) + (if not b then 1 else 0)
  one_less true free l = omega arith
  one_less false (r ∷ free) l = omega arith
  one_less false [] l = absurd (omega arith)

  found_after : (here : Bool) (e : Entry) (o : Option Entry) → one_or_none (if here then Some e else o) ≡ (if here then e ∷ [] else one_or_none o)
  found_after true e o = refl
  found_after false e o = refl

  -- the rows of a table into which an entry of the namespace was put
  pub inserted_fits : (before after : Contents PlaceKey Entry) (m : ModuleId) (n : Name) (x : T) (q : PlaceKey) (e : Entry) (r : Result (Option Entry) Full) → all_of before.entries ≡ true
      → q ≡ key space.namespace m n → e ≡ space.to x → OnOk r (after.entries ≡ put same_key.it before.entries q e) → OnErr r (after ≡ before) → all_of after.entries ≡ true
  inserted_fits before after m n x q e (Ok o) all is_key is_entry entries err =
      let own : is_of (key space.namespace m n) (space.to x) ≡ true = sym (laws_of.own (space.to x)) ∙ ap (λ (y : Option T). is_some y) (laws_of.back x) in
      rw (entries, is_key, is_entry) (put_fits before.entries (key space.namespace m n) (space.to x) all own)
  inserted_fits before after m n x q e (Err f) all is_key is_entry entries err = rw err all

  module _ (before after : Contents PlaceKey Entry) (m : ModuleId) (n : Name) (x : T) (all : all_of before.entries ≡ true) (room : 0 < length before.free) where
    abbrev k : PlaceKey
    k = key space.namespace m n

    abbrev here : Option Entry
    here = find same_key.it before.entries k

    came : (holds : Bool) → holds ≡ (stepped space.tests (told_of table_storing space before.entries m n) x).changed → holds ≡ true
        → after.entries ≡ put same_key.it before.entries k (space.to x) → after.free ≡ (if is_some here then before.free else drop 1 before.free)
        → Comes table_storing space before m n (Some x) holds after
    came holds is so entries free =
        let e = has_row before.entries m n all in
        let f : after.free ≡ drop (if not (is_some here) then 1 else 0) before.free = free ∙ one_row (is_some here) before.free in
        let l : length before.free ≡ length after.free + (if not (is_some here) then 1 else 0) = rw f (one_less (is_some here) before.free room) in
        record {
          answers = is;
          entries = rw (← is, so) entries;
          free = rw e f;
          left = rw e l;
          all = counted (is_some here) (ap length entries ∙ length_put same_key.it before.entries k (space.to x)) l;
          told = λ q. rw (entries, find_put same_key.it before.entries k (space.to x) q laws, so) (found_after (same_key.it q k) (space.to x) (find same_key.it before.entries q));
        }
      where
        counted : (b : Bool) → length after.entries ≡ length before.entries + (if b then 0 else 1) → length before.free ≡ length after.free + (if not b then 1 else 0) → length after.entries + length after.free ≡ length before.entries + length before.free
        counted true a b = omega arith
        counted false a b = omega arith

    -- what an insertion does
    pub inserted : (place : Place T) (step : Stepped T) (q : PlaceKey) (e : Entry) (r : Result (Option Entry) Full)
        → place ≡ told_of table_storing space before.entries m n → step ≡ stepped space.tests place x → q ≡ k → e ≡ space.to x → step.changed ≡ true
        → IfOk r (λ o. o ≡ find same_key.it before.entries q) → (IsErr r ↔ (IsNone (find same_key.it before.entries q) × (before.free ≡ [])))
        → OnOk r (after.entries ≡ put same_key.it before.entries q e) → IfOk r (λ o. after.free ≡ (if is_some o then before.free else drop 1 before.free))
        → Comes table_storing space before m n (Some x) step.changed after
    inserted place step q e (Ok o) is_place is_step is_key is_entry so found full entries free =
        came step.changed (rw (is_step, is_place) refl) so (rw (is_key, is_entry) at entries) (rw (found, is_key) at free)
    inserted place step q e (Err f) is_place is_step is_key is_entry so found full entries free =
        let none : length before.free ≡ 0 = ap (λ xs. length xs) (full.0 refl).1 in absurd (omega arith)
