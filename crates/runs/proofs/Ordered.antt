-- The order law: places by what they took, and the rest by that no call changes it.
use Rattle.std.proofs.Common.{◌≡◌, List, [], ◌∷◌, Some, None, Ok, Err, Result, refl, sym, ap, ◌∙◌, rules}
use Rattle.std.proofs.lemmas.List.Sums.{fold-append}
use Rattle.hir_def.specs.declared.ModuleId.{ModuleId}
use Rattle.hir_def.specs.declared.Name.{Name}
use Rattle.hir_def.specs.declared.fault.PathFault.{PathFault}
use Rattle.path_text.specs.declared.mod_path.ModPath.{ModPath}
use Rattle.item_scope.specs.declared.delivery.Delivery.{Delivery}
use Rattle.item_scope.specs.Deliveries.{brought, delivered, arrived}
use Rattle.item_scope.specs.Places.{stepped, replayed}
use Rattle.item_scope.specs.Views.{View, Places, Types, Values, Macros}
use Rattle.path_resolution.specs.declared.answer.ResolvePathResult.{ResolvePathResult as Answer}
use Rattle.path_resolution.specs.declared.question.Question.{Question}
use Rattle.path_resolution.specs.Questions.{answered}
use Rattle.runs.specs.declared.calls.Call.{Call}
use Rattle.runs.specs.declared.calls.Call.TheVariants.{Deliver, Ask}
use Rattle.runs.specs.Order.{Agree, TakeTheSame, OrderLaw}
use Rattle.runs.specs.Runs.{told, told_after, takes, taken}
use Rattle.runs.specs.Spaces.{Space}
use Rattle.runs.specs.Spaces as space
use Rattle.runs.proofs.Placed.{place-law}

-- one namespace, to whose places deliveries come by the four steps
module _ {D M : Type 0} (sp : Space D M) (arrives : (v : View) (d : Delivery) → sp.places (delivered v d) ≡ arrived sp.tests (sp.places v) d.receiver d.name (sp.part (brought d))) where
  told-at : (v : View) (c : Call) (m : ModuleId) (n : Name) → sp.places (told v c) m n ≡ replayed sp.tests (sp.places v m n) (takes sp m n c)
  told-at v (Deliver d (Some (Ok b))) m n = rw (arrives v d) (search rules)
  told-at v (Deliver d (Some (Err f))) m n = refl
  told-at v (Deliver d None) m n = refl
  told-at v (Ask q path r) m n = refl

  -- a place after a run is what it took makes of it
  pub after-at : (v : View) (cs : List Call) (m : ModuleId) (n : Name) → sp.places (told_after v cs) m n ≡ replayed sp.tests (sp.places v m n) (taken sp m n cs)
  after-at v [] m n = refl
  after-at v (c ∷ cs) m n =
      after-at (told v c) cs m n
      ∙ ap (λ p. replayed sp.tests p (taken sp m n cs)) (told-at v c m n)
      ∙ sym (fold-append (λ p e. (stepped sp.tests p e).place) (sp.places v m n) (takes sp m n c) (taken sp m n cs))

  same-at : (v : View) (cs ds : List Call) (m : ModuleId) (n : Name) → Agree sp.tests (sp.places v m n) (taken sp m n cs) (taken sp m n ds) → sp.places (told_after v cs) m n ≡ sp.places (told_after v ds) m n
  same-at v cs ds m n a =
      after-at v cs m n ∙ place-law sp.tests (sp.places v m n) (taken sp m n cs) (taken sp m n ds) a ∙ sym (after-at v ds m n)

abbrev with : View → Places Types → Places Values → Places Macros → View
with v a b x = record v { types = a; values = b; macros = x }

-- no call changes anything but places
kept-by : (v : View) (c : Call) (a : Places Types) (b : Places Values) (x : Places Macros) → with (told v c) a b x ≡ with v a b x
kept-by v c a b x = search rules

framed : (v : View) (cs : List Call) → told_after v cs ≡ with v (told_after v cs).types (told_after v cs).values (told_after v cs).macros
framed v [] = refl
framed v (c ∷ cs) =
    framed (told v c) cs ∙ kept-by v c (told_after v (c ∷ cs)).types (told_after v (c ∷ cs)).values (told_after v (c ∷ cs)).macros

-- a run leaves what is no place
pub fixed-after : (v : View) (cs : List Call) → (told_after v cs).fixed ≡ v.fixed
fixed-after v cs = ap (λ (w : View). w.fixed) (framed v cs)

-- under two runs in which each place took the same, the same is told
same-told : (v : View) (cs ds : List Call) → TakeTheSame v cs ds → told_after v cs ≡ told_after v ds
same-told v cs ds h =
    let a = same-at space.types (λ v d. refl) v cs ds in
    let b = same-at space.values (λ v d. refl) v cs ds in
    let x = same-at space.macros (λ v d. refl) v cs ds in
    framed v cs
    ∙ (λ i. with v (λ m n. a m n (h.types m n) i) (λ m n. b m n (h.values m n) i) (λ m n. x m n (h.macros m n) i))
    ∙ sym (framed v ds)

pub order-law : (v w : View) (cs ds : List Call) (q : Question) (path : ModPath) (r s : Result Answer PathFault)
    → r ≡ answered (told_after v cs) q path.kind path.names.items → s ≡ answered (told_after w ds) q path.kind path.names.items → OrderLaw v w cs ds r s
order-law v w cs ds q path r s a b e h =
    let told : told_after v cs ≡ told_after w ds = same-told v cs ds h ∙ ap (λ z. told_after z ds) e in
    record { told = told; answers = λ p j ms. ap (λ z. answered z p j ms) told; asked = a ∙ ap (λ z. answered z q path.kind path.names.items) told ∙ sym b }
