-- A delivery that is not refused, and what taking it comes to.
use Rattle.std.proofs.Common.{◌≡◌, ◌+◌, ◌-◌, ◌≤◌, Bool, false, ◌∙◌, List, length, Some, None, Ok, Option, refl, sym, subst, arith, nat_le}
use Rattle.hir_def.specs.declared.fault.IndexFault.TheVariants.{NoRows}
use Rattle.hir_def.specs.declared.fault.IndexFault.{IndexFault}
use Rattle.item_scope.specs.declared.delivery.Delivery.{Delivery}
use Rattle.item_scope.specs.IndexData.{IndexData}
use Rattle.item_scope.specs.Views.{View, Sound}
use Rattle.item_scope.specs.Deliveries.{filled, faulty, refused, Takes}
use Rattle.item_scope.proofs.Taken.{delivered_sound}
use Rattle.variants.specs.declared.own_places.OwnPlace.{OwnPlace}
use Rattle.variants.specs.Own.{overlaid, came_all, any_changed_at, copies}
use Rattle.variants.proofs.Told.{tells_delivered, tells_changed, counts_copies}

-- no more places are copied than namespaces are filled
copies_within : (rows : List OwnPlace) (d : Delivery) → copies rows d ≤ filled d
copies_within rows d = grind arith

module _ (v : View) (rows : List OwnPlace) (d : Delivery) where
  abbrev w : View
  w = overlaid v rows

  -- the rows when its entries have come
  abbrev pub come : List OwnPlace
  come = came_all (w.types d.receiver d.name) (w.values d.receiver d.name) (w.macros d.receiver d.name) rows d

  abbrev pub holds : Bool
  holds = any_changed_at (w.types d.receiver d.name) (w.values d.receiver d.name) (w.macros d.receiver d.name) d

  module _ (none : refused w (64 - length rows) d ≡ None) where
    fits : faulty v.fixed d ≡ None
    fits = grind arith

    pub room : filled d ≤ 64 - length rows
    room = grind arith

    pub sound : Sound w → Sound (overlaid v come)
    sound s = subst Sound (sym (tells_delivered v rows d)) (delivered_sound w d fits s)

    pub falls : 64 - length rows ≡ 64 - length come + copies rows d
    falls = let r = room in let c = copies_within rows d in let l = counts_copies v rows d in omega arith

    pub takes : Takes w (64 - length rows) d (Ok holds) (overlaid v come) (64 - length come)
    takes =
        let c = copies_within rows d in
        let f = falls in
        record { answers = rw (none, tells_changed w d) refl; after = tells_delivered v rows d; falls = omega arith; spares = omega arith }

-- where all rows are used each delivery with which nothing is wrong is refused
some_filled : (f : IndexData) (d : Delivery) → faulty f d ≡ None → nat_le (filled d) 0 ≡ false
some_filled f d none = grind arith

pub full : (v : View) (rows : List OwnPlace) (d : Delivery) (fault : Option IndexFault) → fault ≡ refused (overlaid v rows) (64 - length rows) d → length rows ≡ 64 → faulty v.fixed d ≡ None → fault ≡ Some (NoRows 0)
full v rows d fault is used none =
    let zero : 64 - length rows ≡ 0 = omega arith in
    is ∙ rw (none, zero, some_filled v.fixed d none) refl
