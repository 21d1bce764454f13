-- What a place comes to rests on its named entries in their order, and where it began empty and took none, on the first glob's.
use Rattle.std.proofs.Common.{◌≡◌, false, List, [], ◌∷◌, Option, Some, None, refl, arith}
use Rattle.item_scope.specs.declared.place.Place.{Place}
use Rattle.item_scope.specs.declared.place.Place.TheVariants.{Empty, ByGlob, ByName}
use Rattle.item_scope.specs.Places.{Tests, is_empty, replayed}
use Rattle.runs.specs.Order.{named, first_glob, Agree}

module _ {T : Type 0} (t : Tests T) where
  -- globs pass by a place that is held
  held : (xs : List T) (p : Place T) → is_empty p ≡ false → replayed t p xs ≡ replayed t p (named t xs)
  held [] p h = refl
  held (x ∷ xs) p h = grind (arith, held xs)

  -- the place after named entries: the first of them takes it from a glob or from nothing
  abbrev after : Place T → List T → Place T
  after p [] = p
  after p (n ∷ ns) = replayed t (ByName n) ns

  globbed : (o : T) (xs : List T) → replayed t (ByGlob o) xs ≡ after (ByGlob o) (named t xs)
  globbed o [] = refl
  globbed o (x ∷ xs) = grind (arith, globbed o xs, held xs)

  abbrev begun : Option T → Place T
  begun None = Empty
  begun (Some g) = ByGlob g

  emptied : (xs : List T) → replayed t Empty xs ≡ after (begun (first_glob t xs)) (named t xs)
  emptied [] = refl
  emptied (x ∷ xs) = grind (arith, globbed x xs, held xs)

  same : (xs ys : List T) (f g : Option T) → xs ≡ ys → (xs ≡ [] → f ≡ g) → after (begun f) xs ≡ after (begun g) ys
  same xs ys f g e h = grind arith

  pub place-law : (p : Place T) (xs ys : List T) → Agree t p xs ys → replayed t p xs ≡ replayed t p ys
  place-law p xs ys a = grind (arith, emptied xs, emptied ys, same (named t xs) (named t ys) (first_glob t xs) (first_glob t ys), held xs, held ys)
