-- Two runs of the same calls, reordered, that took the same deliveries: each place took the same.
use Rattle.std.proofs.Common.{◌≡◌, ℕ, ◌+◌, Bool, true, false, not, if◌then◌else◌, List, [], ◌∷◌, map, find, Option, Some, None, Ok, Err, Result, refl, sym, ap, subst, ◌∙◌, arith}
use Rattle.std.specs.List.{zip, position_from}
use Rattle.std.specs.Option.{option_or, option_map, option_map_or}
use Rattle.std.proofs.lemmas.Grind.{flat_map-append}
use Rattle.std.proofs.lemmas.List.{append-nil}
use Rattle.std.proofs.lemmas.List.Elements.{filter-append}
use Rattle.std.proofs.lemmas.List.Folds.{find-append}
use Rattle.std.proofs.lemmas.Option.{same_Some, none-some}
use Rattle.hir_def.specs.declared.ModuleId.{ModuleId}
use Rattle.hir_def.specs.declared.Name.{Name}
use Rattle.hir_def.specs.declared.fault.PathFault.{PathFault}
use Rattle.hir_def.specs.declared.import.ImportOrExternCrate.{ImportOrExternCrate}
use Rattle.hir_def.specs.declared.import.ImportOrExternCrate.TheVariants as wide
use Rattle.hir_def.specs.Imports.{narrowed}
use Rattle.entries.specs.declared.per_ns.Item.{Item}
use Rattle.item_scope.specs.declared.delivery.Delivery.{Delivery}
use Rattle.item_scope.specs.declared.place.Place.{Place}
use Rattle.item_scope.specs.Deliveries.{brought, under_import}
use Rattle.item_scope.specs.Globs.{wide_glob, narrow_glob, by_glob}
use Rattle.item_scope.specs.Views.{View}
use Rattle.path_resolution.specs.declared.answer.ResolvePathResult.{ResolvePathResult as Answer}
use Rattle.runs.specs.declared.calls.Call.{Call}
use Rattle.runs.specs.declared.calls.Call.TheVariants.{Deliver, Ask}
use Rattle.runs.specs.Order.{named, Agree, TakeTheSame, OrderLaw}
use Rattle.runs.specs.Runs.{unmade, listed, takes, taken}
use Rattle.runs.specs.Spaces.{Space}
use Rattle.runs.specs.Spaces as space
use Rattle.orders.specs.declared.order.Order.{Order}
use Rattle.orders.specs.declared.order.Order.TheVariants.{NamesFirst, GlobsFirst}
use Rattle.orders.specs.declared.agreement.Agreement.{Agreement}
use Rattle.orders.specs.declared.agreement.Agreement.TheVariants as agreement
use Rattle.orders.specs.Agreements.{is_taken, differ, parted_at, differed_at, agreement_of, Agrees, AgreementLaw}
use Rattle.orders.specs.Orders.{is_by_glob, by_globs, by_names, reordered}
use Rattle.orders.proofs.Reordered.{reordered-unmade}

-- one namespace, in which an entry is by glob exactly when its delivery is
module _ {D M : Type 0} (sp : Space D M) (kind : (d : Delivery) (e : Item D M) → sp.part (brought d) ≡ Some e → sp.tests.glob e ≡ by_glob wide_glob d.import) (m : ModuleId) (n : Name) where
  abbrev at : Call → List (Item D M)
  at = takes sp m n

  abbrev all : List Call → List (Item D M)
  all = taken sp m n

  named-listed : (glob : Bool) (o : Option (Item D M)) → ((e : Item D M) → o ≡ Some e → sp.tests.glob e ≡ glob) → named sp.tests (listed o) ≡ (if glob then [] else listed o)
  named-listed true None h = refl
  named-listed false None h = refl
  named-listed true (Some e) h = rw (h e refl)
  named-listed false (Some e) h = rw (h e refl)

  find-listed : (o : Option (Item D M)) → ((e : Item D M) → o ≡ Some e → sp.tests.glob e ≡ false) → find sp.tests.glob (listed o) ≡ None
  find-listed None h = refl
  find-listed (Some e) h = rw (h e refl)

  -- a call by glob brings no named entry, and any other only such
  named-brought : (theirs : Bool) (d : Delivery) → let es = if theirs then listed (sp.part (brought d)) else [] in named sp.tests es ≡ (if by_glob wide_glob d.import then [] else es)
  named-brought true d = named-listed (by_glob wide_glob d.import) (sp.part (brought d)) (kind d)
  named-brought false d = grind arith

  named-at : (c : Call) → named sp.tests (at c) ≡ (if is_by_glob c then [] else at c)
  named-at (Deliver d (Some (Ok b))) = named-brought _ d
  named-at (Deliver d (Some (Err f))) = grind arith
  named-at (Deliver d None) = grind arith
  named-at (Ask q path r) = refl

  find-brought : (theirs : Bool) (d : Delivery) → by_glob wide_glob d.import ≡ false → find sp.tests.glob (if theirs then listed (sp.part (brought d)) else []) ≡ None
  find-brought true d h = find-listed (sp.part (brought d)) (λ e g. kind d e g ∙ h)
  find-brought false d h = refl

  find-at : (c : Call) → is_by_glob c ≡ false → find sp.tests.glob (at c) ≡ None
  find-at (Deliver d (Some (Ok b))) h = find-brought _ d h
  find-at (Deliver d (Some (Err f))) h = refl
  find-at (Deliver d None) h = refl
  find-at (Ask q path r) h = refl

  -- so of all that a place takes, the named entries are those of the calls by name, and the first glob's is that of the calls by glob
  named-globs : (cs : List Call) → named sp.tests (all (by_globs cs)) ≡ []
  named-globs [] = refl
  named-globs (c ∷ cs) = grind (arith, named-at c, filter-append (λ e. not (sp.tests.glob e)) (at c) (all (by_globs cs)), named-globs cs)

  named-names : (cs : List Call) → named sp.tests (all (by_names cs)) ≡ all (by_names cs)
  named-names [] = refl
  named-names (c ∷ cs) = grind (arith, named-at c, filter-append (λ e. not (sp.tests.glob e)) (at c) (all (by_names cs)), named-names cs)

  named-all : (cs : List Call) → named sp.tests (all cs) ≡ all (by_names cs)
  named-all [] = refl
  named-all (c ∷ cs) = grind (arith, named-at c, filter-append (λ e. not (sp.tests.glob e)) (at c) (all cs), named-all cs)

  find-names : (cs : List Call) → find sp.tests.glob (all (by_names cs)) ≡ None
  find-names [] = refl
  find-names (c ∷ cs) = grind (arith, find-at c, find-append sp.tests.glob (at c) (all (by_names cs)), find-names cs)

  find-all : (cs : List Call) → find sp.tests.glob (all cs) ≡ find sp.tests.glob (all (by_globs cs))
  find-all [] = refl
  find-all (c ∷ cs) = grind (arith, find-at c, find-append sp.tests.glob (at c) (all (by_globs cs)), find-append sp.tests.glob (at c) (all cs), find-all cs)

  named-reordered : (o : Order) (cs : List Call) → named sp.tests (all cs) ≡ named sp.tests (all (reordered o cs))
  named-reordered NamesFirst cs =
      named-all cs ∙ sym (rw (flat_map-append at (by_names cs) (by_globs cs), filter-append, named-names cs, named-globs cs) (append-nil (all (by_names cs))))
  named-reordered GlobsFirst cs =
      named-all cs ∙ sym (rw (flat_map-append at (by_globs cs) (by_names cs), filter-append, named-names cs, named-globs cs) refl)

  find-reordered : (o : Order) (cs : List Call) → find sp.tests.glob (all cs) ≡ find sp.tests.glob (all (reordered o cs))
  find-reordered NamesFirst cs =
      find-all cs ∙ sym (rw (flat_map-append at (by_names cs) (by_globs cs), find-append, find-names cs) refl)
  find-reordered GlobsFirst cs =
      find-all cs ∙ sym (rw (flat_map-append at (by_globs cs) (by_names cs), find-append, find-names cs) (or-none (find sp.tests.glob (all (by_globs cs)))))
    where
      or-none : {T : Type 0} (o : Option T) → option_or o None ≡ o
      or-none None = refl
      or-none (Some x) = refl

  -- calls that were taken alike bring the same
  same-at : (c d : Call) → unmade c ≡ unmade d → differ (is_taken c) (is_taken d) ≡ false → at c ≡ at d
  same-at c d e h = grind arith

  same-all : (i : ℕ) (xs ys : List Call) → map unmade xs ≡ map unmade ys → position_from (λ p. differ (is_taken p.0) (is_taken p.1)) i (zip xs ys) ≡ None → all xs ≡ all ys
  same-all i [] [] e h = refl
  same-all i [] (y ∷ ys) e h = absurd (cc)
  same-all i (x ∷ xs) [] e h = absurd (cc)
  same-all i (x ∷ xs) (y ∷ ys) e h = grind (arith, same-at x y, same-all (i + 1) xs ys)

  agree : (o : Order) (cs ds : List Call) (began : Place (Item D M)) → map unmade (reordered o cs) ≡ map unmade ds → parted_at (reordered o cs) ds ≡ None → Agree sp.tests began (all cs) (all ds)
  agree o cs ds began e h =
      let s : all (reordered o cs) ≡ all ds = same-all 0 (reordered o cs) ds e h in
      record { by_name = named-reordered o cs ∙ ap (named sp.tests) s; globs = λ b z. find-reordered o cs ∙ ap (find sp.tests.glob) s }

-- in each namespace an entry is by glob exactly when its delivery is
under-kind : {D M : Type 0} (glob : M → Bool) (i : Option M) (o : Option (Item D M)) (e : Item D M) → option_map (under_import i) o ≡ Some e → by_glob glob e.import ≡ by_glob glob i
under-kind glob i None e h = absurd (none-some e h)
under-kind {D} {M} glob i (Some it) e h = ap (λ (x : Item D M). by_glob glob x.import) (sym (same_Some (under_import i it) e h))

narrowed-kind : (i : Option ImportOrExternCrate) → by_glob narrow_glob (narrowed i) ≡ by_glob wide_glob i
narrowed-kind None = refl
narrowed-kind (Some (wide.Glob g)) = refl
narrowed-kind (Some (wide.Import i)) = refl
narrowed-kind (Some (wide.ExternCrate e)) = refl

take-the-same : (v : View) (o : Order) (cs ds : List Call) → map unmade (reordered o cs) ≡ map unmade ds → parted_at (reordered o cs) ds ≡ None → TakeTheSame v cs ds
take-the-same v o cs ds e h = record {
  types = λ m n. agree space.types (λ d x p. under-kind wide_glob d.import d.entries.types x p) m n o cs ds (v.types m n) e h;
  values = λ m n. agree space.values (λ d x p. under-kind narrow_glob (narrowed d.import) d.entries.values x p ∙ narrowed-kind d.import) m n o cs ds (v.values m n) e h;
  macros = λ m n. agree space.macros (λ d x p. under-kind wide_glob d.import d.entries.macros x p) m n o cs ds (v.macros m n) e h;
}

none-parted : (p d : Option ℕ) → Agrees (option_map_or agreement.Parted p (agreement.Agree d)) → p ≡ None
none-parted None d a = refl
none-parted (Some i) d a = absurd a

pub agreement-law : (v w : View) (o : Order) (given cs other ds : List Call) (a : Agreement) (r s : Result Answer PathFault)
    → other ≡ reordered o given → map unmade cs ≡ map unmade given → map unmade ds ≡ map unmade other → a ≡ agreement_of (reordered o cs) ds → OrderLaw v w cs ds r s → AgreementLaw v w a cs ds r s
agreement-law v w o given cs other ds a r s is-other made-first made-second is-told law begun agrees =
    let same : map unmade (reordered o cs) ≡ map unmade ds =
    reordered-unmade o cs ∙ ap (reordered o) made-first ∙ sym (reordered-unmade o given) ∙ ap (map unmade) (sym is-other) ∙ sym made-second in
    let none : parted_at (reordered o cs) ds ≡ None = none-parted (parted_at (reordered o cs) ds) (differed_at (reordered o cs) ds) (subst Agrees is-told agrees) in
    law begun (take-the-same v o cs ds same none)
