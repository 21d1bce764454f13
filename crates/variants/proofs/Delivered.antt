-- What steps that each leave the index below as it was, and make other rows of the own ones, make of a variant in turn.
use Rattle.std.proofs.Common.{◌≡◌, Bool, if◌then◌else◌, is_ok, is_some, List, Some, None, Option, Result, refl, ap, ◌∙◌}
use Rattle.std.specs.List.{fold}
use Rattle.nameres.specs.declared.Tree as tree
use Rattle.hir_def.specs.declared.fault.IndexFault.{IndexFault}
use Rattle.item_scope.specs.declared.delivery.Delivery.{Delivery}
use Rattle.item_scope.specs.declared.index.Index as index
use Rattle.item_scope.specs.Deliveries.{answer_of}
use Rattle.item_scope.specs.InTurn.{InTurn}
use Rattle.item_scope.specs.InTurn.InTurn.{done, next}
use Rattle.item_scope.specs.Views.{View}
use Rattle.variants.specs.declared.own_places.OwnPlace.{OwnPlace}
use Rattle.variants.specs.declared.variant.Variant.{Variant}
use Rattle.variants.specs.Own.{rows_after}
use Rattle.variants.specs.Variants.{below_of, own_in, Delivers}

taken : (o : Option IndexFault) (b : Bool) (r : Result Bool IndexFault) (now came same : List OwnPlace) → r ≡ answer_of o b → now ≡ (if is_ok r then came else same) → now ≡ (if is_some o then same else came)
taken None b r now came same a n = rw a at n
taken (Some x) b r now came same a n = rw a at n

module _ {I : Type 0} {index : index.Ghosts I} {tree : tree.Ghosts I} where
  -- of the rows, and of the index below
  pub record Makes (rows : List OwnPlace) (x y : Variant I index tree) : Type 0 where
    pub own : own_in y ≡ rows
    pub below : below_of y ≡ below_of x

  pub delivers : (x y : Variant I index tree) (d : Delivery) (r : Result Bool IndexFault) → Delivers x d r y → Makes (rows_after (index.view (below_of x)) (own_in x) d) x y
  delivers x y d r h = record { own = taken _ _ r _ _ _ h.takes.answers h.copies.rows; below = h.copies.below }

  pub in_turn : {C : Type 0} (Step : Variant I index tree → C → Variant I index tree → Type 0) (f : View → List OwnPlace → C → List OwnPlace)
      → ((x y : Variant I index tree) (c : C) → Step x c y → Makes (f (index.view (below_of x)) (own_in x) c) x y)
      → {x y : Variant I index tree} {cs : List C} → InTurn Step x cs y → Makes (fold (f (index.view (below_of x))) (own_in x) cs) x y
  in_turn Step f each done = record { own = refl; below = refl }
  in_turn Step f each (next {x = x} {y = y} {c = c} {cs = cs} s t) =
      let one = each x y c s in
      let more = in_turn Step f each t in
      record {
        own = more.own ∙ ap (λ (b : I). fold (f (index.view b)) (own_in y) cs) one.below ∙ ap (λ (rows : List OwnPlace). fold (f (index.view (below_of x))) rows cs) one.own;
        below = more.below ∙ one.below;
      }
