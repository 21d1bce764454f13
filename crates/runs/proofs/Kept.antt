-- What holds a place by name gives way only to its own import in a run, since the place is what it took makes of it.
use Rattle.std.proofs.Common.{◌≡◌, List, refl, sym, subst}
use Rattle.hir_def.specs.contracts.lawful_eq.ModuleDefIdLawfulEq.TheImpl.Laws.{eq_is_identity-law as def_law}
use Rattle.hir_def.specs.contracts.lawful_eq.MacroIdLawfulEq.TheImpl.Laws.{eq_is_identity-law as macro_law}
use Rattle.hir_def.specs.contracts.lawful_eq.ImportOrExternCrateLawfulEq.TheImpl.Laws.{eq_is_identity-law as wide_law}
use Rattle.hir_def.specs.contracts.lawful_eq.ImportOrGlobLawfulEq.TheImpl.Laws.{eq_is_identity-law as narrow_law}
use Rattle.hir_def.specs.contracts.ModuleDefIdPartialEq.TheImpl.{eq-value as same_def}
use Rattle.hir_def.specs.contracts.MacroIdPartialEq.TheImpl.{eq-value as same_macro}
use Rattle.hir_def.specs.contracts.import.ImportOrExternCratePartialEq.TheImpl.{eq-value as same_wide}
use Rattle.hir_def.specs.contracts.import.ImportOrGlobPartialEq.TheImpl.{eq-value as same_narrow}
use Rattle.hir_def.specs.declared.ModuleId.{ModuleId}
use Rattle.hir_def.specs.declared.Name.{Name}
use Rattle.entries.specs.declared.per_ns.Item.{Item}
use Rattle.item_scope.specs.declared.delivery.Delivery.{Delivery}
use Rattle.item_scope.specs.declared.place.Place.{Place}
use Rattle.item_scope.specs.Deliveries.{brought, delivered, arrived}
use Rattle.item_scope.specs.Globs.{wide_glob, narrow_glob}
use Rattle.item_scope.specs.Holding.{KeepsNames}
use Rattle.item_scope.specs.Places.{replayed}
use Rattle.item_scope.specs.Views.{View}
use Rattle.item_scope.proofs.Held.{keeps-names}
use Rattle.runs.specs.declared.calls.Call.{Call}
use Rattle.runs.specs.Kept.{KeepsHolders}
use Rattle.runs.specs.Runs.{State, Ran, told_after, taken}
use Rattle.runs.specs.Spaces.{Space}
use Rattle.runs.specs.Spaces as space
use Rattle.runs.proofs.Made.{ran_told}
use Rattle.runs.proofs.Ordered.{after-at}

-- in a namespace whose steps keep names
keeps-at : {D M : Type 0} (sp : Space D M) (arrives : (v : View) (d : Delivery) → sp.places (delivered v d) ≡ arrived sp.tests (sp.places v) d.receiver d.name (sp.part (brought d)))
    (keeps : (p : Place (Item D M)) (es : List (Item D M)) → KeepsNames sp.tests.glob p es (replayed sp.tests p es))
    (v : View) (cs : List Call) (m : ModuleId) (n : Name) → KeepsNames sp.tests.glob (sp.places v m n) (taken sp m n cs) (sp.places (told_after v cs) m n)
keeps-at sp arrives keeps v cs m n =
    subst (KeepsNames sp.tests.glob (sp.places v m n) (taken sp m n cs)) (sym (after-at sp arrives v cs m n)) (keeps (sp.places v m n) (taken sp m n cs))

keeps-after : (v : View) (cs : List Call) → KeepsHolders v cs (told_after v cs)
keeps-after v cs = record {
  types = keeps-at space.types (λ v d. refl) (keeps-names same_def.it wide_glob same_wide.it def_law wide_law) v cs;
  values = keeps-at space.values (λ v d. refl) (keeps-names same_def.it narrow_glob same_narrow.it def_law narrow_law) v cs;
  macros = keeps-at space.macros (λ v d. refl) (keeps-names same_macro.it wide_glob same_wide.it macro_law wide_law) v cs;
}

pub ran_keeps : {s t : State} {cs : List Call} → Ran s cs t → KeepsHolders s.view cs t.view
ran_keeps {s} {t} {cs} r = subst (KeepsHolders s.view cs) (sym (ran_told r)) (keeps-after s.view cs)
