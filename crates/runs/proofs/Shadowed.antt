-- What came by name shadows globs at each place after a run, since the place is what it took makes of it.
use Rattle.std.proofs.Common.{◌≡◌, List, refl, sym, subst}
use Rattle.hir_def.specs.declared.ModuleId.{ModuleId}
use Rattle.hir_def.specs.declared.Name.{Name}
use Rattle.item_scope.specs.declared.delivery.Delivery.{Delivery}
use Rattle.item_scope.specs.Deliveries.{brought, delivered, arrived}
use Rattle.item_scope.specs.Shadowing.{Shadows}
use Rattle.item_scope.specs.Views.{View}
use Rattle.item_scope.proofs.Shadowed.{shadows}
use Rattle.runs.specs.declared.calls.Call.{Call}
use Rattle.runs.specs.Runs.{State, Ran, told_after, taken}
use Rattle.runs.specs.Shadowed.{ShadowsGlobs}
use Rattle.runs.specs.Spaces.{Space}
use Rattle.runs.specs.Spaces as space
use Rattle.runs.proofs.Made.{ran_told}
use Rattle.runs.proofs.Ordered.{after-at}

shadows-at : {D M : Type 0} (sp : Space D M) (arrives : (v : View) (d : Delivery) → sp.places (delivered v d) ≡ arrived sp.tests (sp.places v) d.receiver d.name (sp.part (brought d)))
    (v : View) (cs : List Call) (m : ModuleId) (n : Name) → Shadows sp.tests.glob (sp.places v m n) (taken sp m n cs) (sp.places (told_after v cs) m n)
shadows-at sp arrives v cs m n =
    subst (Shadows sp.tests.glob (sp.places v m n) (taken sp m n cs)) (sym (after-at sp arrives v cs m n)) (shadows sp.tests (sp.places v m n) (taken sp m n cs))

shadows-after : (v : View) (cs : List Call) → ShadowsGlobs v cs (told_after v cs)
shadows-after v cs = record {
  types = shadows-at space.types (λ v d. refl) v cs;
  values = shadows-at space.values (λ v d. refl) v cs;
  macros = shadows-at space.macros (λ v d. refl) v cs;
}

pub ran_shadows : {s t : State} {cs : List Call} → Ran s cs t → ShadowsGlobs s.view cs t.view
ran_shadows {s} {t} {cs} r = subst (ShadowsGlobs s.view cs) (sym (ran_told r)) (shadows-after s.view cs)
