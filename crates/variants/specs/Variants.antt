-- What a variant tells, the places that it has of its own, and the index below it.
use Rattle.std.specs.Prelude.{◌≡◌, ℕ, ◌+◌, ◌-◌, Bool, if◌then◌else◌, List, Result, length, is_ok}
use Rattle.nameres.specs.declared.Tree as tree
use Rattle.hir_def.specs.declared.fault.IndexFault.{IndexFault}
use Rattle.item_scope.specs.declared.delivery.Delivery.{Delivery}
use Rattle.item_scope.specs.declared.index.Index as index
use Rattle.item_scope.specs.Deliveries.{Takes}
use Rattle.item_scope.specs.Views.{View}
use Rattle.variants.specs.declared.own_places.OwnPlace.{OwnPlace}
use Rattle.variants.specs.declared.variant.Variant.{Variant}
use Rattle.variants.specs.Own.{overlaid, came_all, copies}

module _ {I : Type 0} {index : index.Ghosts I} {tree : tree.Ghosts I} where
  abbrev pub below_of : Variant I index tree → I
  below_of x = x.below.now

  -- the used rows
  abbrev pub own_in : Variant I index tree → List OwnPlace
  own_in x = x.own

  abbrev pub view_in : Variant I index tree → View
  view_in x = overlaid (index.view (below_of x)) (own_in x)

  abbrev pub left_in : Variant I index tree → ℕ
  left_in x = 64 - length (own_in x)

  -- it has as many places of its own as it can have
  abbrev pub IsFull : Variant I index tree → Type 0
  IsFull x = length (own_in x) ≡ 64

  -- a delivery to the variant does what one does to any index
  abbrev pub Receives : Variant I index tree → Delivery → Result Bool IndexFault → Variant I index tree → Type 0
  Receives before d result after = Takes (view_in before) (left_in before) d result (view_in after) (left_in after)

  -- the used rows when a delivery was taken: each place to which an entry came is what the steps make of it as it was told
  abbrev pub own_after : Variant I index tree → Delivery → List OwnPlace
  own_after x d = let v = view_in x in let m = d.receiver in let n = d.name in came_all (v.types m n) (v.values m n) (v.macros m n) (own_in x) d

  -- what a delivery does beside that, taken or not
  pub record Copies (before : Variant I index tree) (d : Delivery) (taken : Bool) (after : Variant I index tree) : Type 0 where
    -- the index below is as it was
    pub below : below_of after ≡ below_of before
    pub rows : own_in after ≡ (if taken then own_after before d else own_in before)
    -- a free row is used for each place that is copied
    pub left : left_in before ≡ left_in after + (if taken then copies (own_in before) d else 0)

  -- what a delivery to the variant does
  pub record Delivers (before : Variant I index tree) (d : Delivery) (result : Result Bool IndexFault) (after : Variant I index tree) : Type 0 where
    pub takes : Receives before d result after
    pub copies : Copies before d (is_ok result) after
