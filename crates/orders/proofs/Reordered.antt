-- Reordered calls: as many as before, the same but for what came of them, and in no case in the order in which they stood.
use Rattle.std.proofs.Common.{◌≡◌, ◌+◌, Bool, true, false, not, List, [], ◌∷◌, ◌++◌, length, map, ◌⊎◌, inl, inr, refl, sym, ap, ◌∙◌, arith}
use Rattle.std.specs.List.{list_all}
use Rattle.std.proofs.lemmas.List.{map-append}
use Rattle.std.proofs.lemmas.List.Filters.{length-filter_both}
use Rattle.runs.specs.declared.calls.Call.{Call}
use Rattle.runs.specs.declared.calls.Call.TheVariants.{Deliver, Ask}
use Rattle.runs.specs.Runs.{unmade}
use Rattle.orders.specs.declared.order.Order.{Order}
use Rattle.orders.specs.declared.order.Order.TheVariants.{NamesFirst, GlobsFirst}
use Rattle.orders.specs.Orders.{is_by_glob, by_globs, by_names, of_kind, reordered, names_first, IsOneKind}

-- both kinds together are all
pub both_kinds : (glob : Bool) (cs : List Call) → length (of_kind glob cs) + length (of_kind (not glob) cs) ≡ length cs
both_kinds true cs = length-filter_both is_by_glob (λ c. not (is_by_glob c)) (λ c. refl) cs
both_kinds false cs = grind (arith, length-filter_both is_by_glob (λ c. not (is_by_glob c)) (λ c. refl) cs)

-- what came of a call says nothing of its kind
unmade-kind : (c : Call) → is_by_glob (unmade c) ≡ is_by_glob c
unmade-kind (Deliver d r) = refl
unmade-kind (Ask q path r) = refl

globs-unmade : (cs : List Call) → map unmade (by_globs cs) ≡ by_globs (map unmade cs)
globs-unmade [] = refl
globs-unmade (c ∷ cs) = grind (arith, unmade-kind c, globs-unmade cs)

names-unmade : (cs : List Call) → map unmade (by_names cs) ≡ by_names (map unmade cs)
names-unmade [] = refl
names-unmade (c ∷ cs) = grind (arith, unmade-kind c, names-unmade cs)

pub reordered-unmade : (o : Order) (cs : List Call) → map unmade (reordered o cs) ≡ reordered o (map unmade cs)
reordered-unmade NamesFirst cs = rw (map-append unmade (by_names cs) (by_globs cs), globs-unmade, names-unmade)
reordered-unmade GlobsFirst cs = rw (map-append unmade (by_globs cs) (by_names cs), globs-unmade, names-unmade)

-- calls in which names are first stand so already
all-globs : (cs : List Call) → list_all is_by_glob cs ≡ true → (by_globs cs ≡ cs) × (by_names cs ≡ [])
all-globs [] h = (refl, refl)
all-globs (c ∷ cs) h = grind (arith, all-globs cs)

stand-so : (cs : List Call) → names_first cs ≡ true → by_names cs ++ by_globs cs ≡ cs
stand-so [] h = refl
stand-so (c ∷ cs) h = grind (arith, all-globs cs, stand-so cs)

-- and so they are once they are put first
globs-alone : (cs : List Call) → list_all is_by_glob (by_globs cs) ≡ true
globs-alone [] = refl
globs-alone (c ∷ cs) = grind (arith, globs-alone cs)

all-first : (cs : List Call) → list_all is_by_glob cs ≡ true → names_first cs ≡ true
all-first [] h = refl
all-first (c ∷ cs) h = grind (arith, all-first cs)

put-first : (xs ys : List Call) → list_all is_by_glob ys ≡ true → names_first (by_names xs ++ ys) ≡ true
put-first [] ys h = all-first ys h
put-first (x ∷ xs) ys h = grind (arith, put-first xs ys)

head-glob : (cs : List Call) (g : Call) (gs : List Call) → by_globs cs ≡ g ∷ gs → is_by_glob g ≡ true
head-glob [] g gs e = absurd (cc)
head-glob (c ∷ cs) g gs e = grind (arith, head-glob cs g gs)

head-name : (cs : List Call) (n : Call) (ns : List Call) → by_names cs ≡ n ∷ ns → is_by_glob n ≡ false
head-name [] n ns e = absurd (cc)
head-name (c ∷ cs) n ns e = grind (arith, head-name cs n ns)

-- so the other order is another one, where there are calls of both kinds
swapped : (gs ns : List Call) → gs ++ ns ≡ ns ++ gs → ((g : Call) (hs : List Call) → gs ≡ g ∷ hs → is_by_glob g ≡ true) → ((n : Call) (ms : List Call) → ns ≡ n ∷ ms → is_by_glob n ≡ false) → (gs ≡ []) ⊎ (ns ≡ [])
swapped [] ns e a b = inl refl
swapped (g ∷ gs) [] e a b = inr refl
swapped (g ∷ gs) (n ∷ ns) e a b =
    let x : is_by_glob g ≡ true = a g gs refl in
    let y : is_by_glob n ≡ false = b n ns refl in
    let z : g ≡ n = cc in
    absurd (cc)

pub is-real-names : (cs : List Call) → names_first cs ≡ false → reordered NamesFirst cs ≡ cs → IsOneKind cs
is-real-names cs h e = absurd (let z : names_first cs ≡ true = ap names_first (sym e) ∙ put-first cs (by_globs cs) (globs-alone cs) in cc)

pub is-real-globs : (cs : List Call) → names_first cs ≡ true → reordered GlobsFirst cs ≡ cs → IsOneKind cs
is-real-globs cs h e = swapped (by_globs cs) (by_names cs) (e ∙ sym (stand-so cs h)) (head-glob cs) (head-name cs)
