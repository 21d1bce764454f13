-- Rows of a ledger: the entries of a place in their turns, and one that comes behind them.
use Rattle.std.proofs.Common.{◌≡◌, ℕ, zero, suc, ◌+◌, ◌<◌, ◌≤◌, Bool, true, false, cond, if◌then◌else◌, ◌&&◌, List, [], ◌∷◌, ◌++◌, length, take, drop, map, is_some, Some, None, Option, Ok, Err, Result, OnOk, OnErr, IsSome, IsNone, ◌↔◌, ◌==◌, refl, sym, ap, subst, ◌∙◌, fold, slice_get, arith, rules}
use Rattle.std.specs.Cmp.{IsEquivalence}
use Rattle.std.specs.List.{filter}
use Rattle.std.specs.Option.{option_or}
use Rattle.std.proofs.lemmas.Bool.{false≢true}
use Rattle.std.proofs.lemmas.List.{take_more, take_all, length-map, map-append, length-append, append-nil}
use Rattle.std.proofs.lemmas.List.Elements.{filter-append}
use Rattle.std.proofs.lemmas.List.Sums.{fold-append, length-filter, count_by-le-length}
use Rattle.std.proofs.lemmas.Option.{slice_get_within, slice_get_past, get_or_from_slice_get}
use Rattle.hir_def.specs.declared.ModuleId.{ModuleId}
use Rattle.hir_def.specs.declared.Name.{Name}
use Rattle.item_scope.specs.declared.place.Place.{Place}
use Rattle.item_scope.specs.declared.place.Place.TheVariants.{Empty}
use Rattle.item_scope.specs.declared.steps.Stepped.{Stepped}
use Rattle.item_scope.specs.Places.{stepped}
use Rattle.keyed.specs.declared.row.Row.{Row}
use Rattle.keyed.specs.declared.table.NotTaken.{NotTaken}
use Rattle.keyed.specs.declared.table.NotTaken.TheVariants.{Present, Full}
use Rattle.keyed.specs.Entries.{Contents, find, row}
use Rattle.indexes.specs.declared.entry.Entry.{Entry}
use Rattle.indexes.specs.declared.entry.PlaceKey.{PlaceKey}
use Rattle.indexes.specs.declared.ledger_index.LedgerKey.{LedgerKey}
use Rattle.indexes.specs.contracts.entry.PlaceKeyPartialEq.TheImpl.{eq-value as same_key}
use Rattle.indexes.specs.contracts.ledger_index.LedgerKeyPartialEq.TheImpl.{eq-value as same_turn}
use Rattle.indexes.specs.Spaces.{Space}
use Rattle.indexes.specs.Told.{key, next, place_of}
use Rattle.indexes.specs.Storing.{told_of, Comes}
use Rattle.indexes.specs.Ledger.{turn_key, came, ledger_storing, FoundByTurn}

laws : IsEquivalence same_key.it
laws = search rules

exact : (a b : PlaceKey) → same_key.it a b ≡ true → a ≡ b
exact a b e = search rules

-- the entries that came to a place, taken one by one
module _ {T : Type 0} (space : Space T) (es : List Entry) where
  pub one_more : (turn : ℕ) (e : Entry) → slice_get es turn ≡ Some e → (next space (fold (next space) Empty (take turn es)) e ≡ fold (next space) Empty (take (turn + 1) es)) × (turn + 1 ≤ length es)
  one_more turn e is =
      let l : turn < length es = slice_get_within es turn e is in
      let t : take (turn + 1) es ≡ take turn es ++ e ∷ [] = take_more es turn e l ∙ ap (λ x. take turn es ++ x ∷ []) (get_or_from_slice_get es turn e e is) in
      (sym (ap (fold (next space) Empty) t ∙ fold-append (next space) Empty (take turn es) (e ∷ [])), omega arith)

  pub no_more : (turn : ℕ) → turn ≤ length es → length es ≤ turn → (fold (next space) Empty (take turn es) ≡ place_of space es) × (turn ≡ length es)
  no_more turn l m = (ap (fold (next space) Empty) (take_all turn es m), omega arith)

pub past_end : {X : Type 0} (xs : List X) (turn : ℕ) → None ≡ slice_get xs turn → length xs ≤ turn
past_end [] turn is = omega arith
past_end (x ∷ xs) zero is = absurd (cc)
past_end (x ∷ xs) (suc turn) is = let l = past_end xs turn is in omega arith

pub few_came : (rows : List (Row LedgerKey Entry)) (k : PlaceKey) → length (came rows k) ≤ length rows
few_came rows k =
    let p : Row LedgerKey Entry → Bool = λ r. same_key.it r.key.place k in
    let a = length-map (filter p rows) (λ (r : Row LedgerKey Entry). r.value) in
    let b = length-filter p rows in
    let c = count_by-le-length p rows in
    omega arith

-- one more row
module _ (rows : List (Row LedgerKey Entry)) (k : PlaceKey) (turn : ℕ) (e : Entry) where
  abbrev behind : List (Row LedgerKey Entry)
  behind = rows ++ row (turn_key k turn) e ∷ []

  pub came_behind : (q : PlaceKey) → came behind q ≡ (if same_key.it q k then came rows q ++ e ∷ [] else came rows q)
  came_behind q =
      ap (map (λ (r : Row LedgerKey Entry). r.value)) (filter-append (λ (r : Row LedgerKey Entry). same_key.it r.key.place q) rows (row (turn_key k turn) e ∷ []))
      ∙ rw (laws.symm k q) (by_key (same_key.it q k))
    where
      by_key : (b : Bool) → map (λ (r : Row LedgerKey Entry). r.value) (filter (λ (r : Row LedgerKey Entry). same_key.it r.key.place q) rows ++ cond b (row (turn_key k turn) e ∷ []) []) ≡ (if b then came rows q ++ e ∷ [] else came rows q)
      by_key true = map-append (λ (r : Row LedgerKey Entry). r.value) (filter (λ (r : Row LedgerKey Entry). same_key.it r.key.place q) rows) (row (turn_key k turn) e ∷ [])
      by_key false = map-append (λ (r : Row LedgerKey Entry). r.value) (filter (λ (r : Row LedgerKey Entry). same_key.it r.key.place q) rows) [] ∙ append-nil (came rows q)

find_behind : {K V : Type 0} (eq : K → K → Bool) (rows : List (Row K V)) (r : Row K V) (q : K) → find eq (rows ++ r ∷ []) q ≡ option_or (find eq rows q) (if eq r.key q then Some r.value else None)
find_behind eq [] r q = refl
find_behind eq (x ∷ rows) r q = grind (arith, find_behind eq rows r q)

get_behind : {X : Type 0} (xs : List X) (x : X) (i : ℕ) → slice_get (xs ++ x ∷ []) i ≡ option_or (slice_get xs i) (if length xs == i then Some x else None)
get_behind [] x zero = refl
get_behind [] x (suc i) = grind arith
get_behind (y ∷ xs) x zero = grind arith
get_behind (y ∷ xs) x (suc i) = grind (arith, get_behind xs x i)

or_none : {X : Type 0} (o : Option X) → option_or o None ≡ o
or_none None = refl
or_none (Some x) = refl

-- the turns go on
module _ (rows : List (Row LedgerKey Entry)) (k : PlaceKey) (e : Entry) (h : FoundByTurn rows) where
  abbrev n : ℕ
  n = length (came rows k)

  abbrev more : List (Row LedgerKey Entry)
  more = rows ++ row (turn_key k n) e ∷ []

  found : (q : PlaceKey) (turn : ℕ) → find same_turn.it more (turn_key q turn) ≡ option_or (find same_turn.it rows (turn_key q turn)) (if same_key.it k q && (n == turn) then Some e else None)
  found q turn = find_behind same_turn.it rows (row (turn_key k n) e) (turn_key q turn)

  here : (turn : ℕ) → find same_turn.it more (turn_key k turn) ≡ slice_get (came more k) turn
  here turn =
      let c : came more k ≡ came rows k ++ e ∷ [] = rw (laws.refl k) at (came_behind rows k n e k) in
      found k turn
      ∙ rw (h k turn, laws.refl k) (sym (get_behind (came rows k) e turn))
      ∙ ap (λ es. slice_get es turn) (sym c)

  pub found_behind : FoundByTurn more
  found_behind q turn =
      elim (same_key.it q k) as (λ b. same_key.it q k ≡ b → find same_turn.it more (turn_key q turn) ≡ slice_get (came more q) turn) [
        | true ↦ λ is. subst (λ p. find same_turn.it more (turn_key p turn) ≡ slice_get (came more p) turn) (sym (exact q k is)) (here turn)
        | false ↦ λ is.
            let other : same_key.it k q ≡ false = laws.symm k q ∙ is in
            let c : came more q ≡ came rows q = rw is at (came_behind rows k n e q) in
            found q turn ∙ rw other (or_none (find same_turn.it rows (turn_key q turn))) ∙ h q turn ∙ ap (λ es. slice_get es turn) (sym c)
      ] refl

none_yet : (rows : List (Row LedgerKey Entry)) (k : PlaceKey) → FoundByTurn rows → find same_turn.it rows (turn_key k (length (came rows k))) ≡ None
none_yet rows k h = h k (length (came rows k)) ∙ slice_get_past (came rows k) (length (came rows k)) (omega arith)

one_less : (free : List (Row LedgerKey Entry)) → 0 < length free → length free ≡ length (drop 1 free) + 1
one_less (r ∷ free) l = omega arith
one_less [] l = absurd (omega arith)

module _ {T : Type 0} (space : Space T) (before after : Contents LedgerKey Entry) (m : ModuleId) (n : Name) (x : T) (h : FoundByTurn before.entries) where
  abbrev k : PlaceKey
  k = key space.namespace m n

  abbrev turn_of : ℕ
  turn_of = length (came before.entries k)

  -- the turns after an insertion
  pub inserted_found : (q : LedgerKey) (e : Entry) (r : Result (Unit {0}) NotTaken) → q ≡ turn_key k turn_of → OnOk r (after.entries ≡ before.entries ++ row q e ∷ []) → OnErr r (after ≡ before) → FoundByTurn after.entries
  inserted_found q e (Ok u) is entries err = rw (entries, is) (found_behind before.entries k e h)
  inserted_found q e (Err f) is entries err = rw err h

  -- what it does
  pub inserted : (place : Place T) (step : Stepped T) (q : LedgerKey) (e : Entry) (r : Result (Unit {0}) NotTaken) → 0 < length before.free
      → place ≡ told_of ledger_storing space before.entries m n → step ≡ stepped space.tests place x → q ≡ turn_key k turn_of → e ≡ space.to x
      → ((r ≡ Err Present) ↔ IsSome (find same_turn.it before.entries q)) → ((r ≡ Err Full) ↔ (IsNone (find same_turn.it before.entries q) × (before.free ≡ [])))
      → OnOk r (after.entries ≡ before.entries ++ row q e ∷ []) → OnOk r (after.free ≡ drop 1 before.free)
      → Comes ledger_storing space before m n (Some x) step.changed after
  inserted place step q e (Ok u) room is_place is_step is_key is_entry present full entries free =
      let f : after.entries ≡ before.entries ++ row (turn_key k turn_of) (space.to x) ∷ [] = rw (is_key, is_entry) at entries in
      let l : length before.free ≡ length after.free + 1 = rw free (one_less before.free room) in
      let a : length after.entries ≡ length before.entries + 1 = ap length f ∙ length-append before.entries _ in
      record {
        answers = rw (is_step, is_place) refl;
        entries = f;
        free = free;
        left = l;
        all = omega arith;
        told = λ p. rw f (came_behind before.entries k turn_of (space.to x) p);
      }
  inserted place step q e (Err Present) room is_place is_step is_key is_entry present full entries free =
      let some : is_some (find same_turn.it before.entries (turn_key k turn_of)) ≡ true = rw is_key at (present.0 refl) in
      absurd (false≢true (ap is_some (sym (none_yet before.entries k h)) ∙ some))
  inserted place step q e (Err Full) room is_place is_step is_key is_entry present full entries free =
      let none : length before.free ≡ 0 = ap (λ xs. length xs) (full.0 refl).1 in absurd (omega arith)
