-- A text is cut at the first of such bytes in one way only.
use Rattle.std.proofs.Common.{◌≡◌, ◌≢◌, ℕ, true, false, List, [], ◌∷◌, ◌++◌, refl, arith}
use Rattle.std.proofs.lemmas.Grind.{common_steps}
use Rattle.source_text.specs.Words.{lacks}

pub lacks_not : (c : ℕ) (x y : List ℕ) → lacks c (x ++ c ∷ y) ≡ false
lacks_not c [] y = grind (arith, common_steps)
lacks_not c (b ∷ x) y = let h = lacks_not c x y in grind (arith, common_steps)

pub first_is : (c b : ℕ) (x : List ℕ) → lacks c (b ∷ x) ≡ true → b ≢ c
first_is c b x h e = grind (arith, common_steps)

rest_lacks : (c b : ℕ) (x : List ℕ) → lacks c (b ∷ x) ≡ true → lacks c x ≡ true
rest_lacks c b x h = grind (arith, common_steps)

pub one_cut : (c : ℕ) (x x' y y' : List ℕ) → lacks c x ≡ true → lacks c x' ≡ true → x ++ c ∷ y ≡ x' ++ c ∷ y' → (x ≡ x') × (y ≡ y')
one_cut c [] [] y y' h k e = (refl, cc)
one_cut c [] (b ∷ x') y y' h k e = absurd (first_is c b x' k cc)
one_cut c (b ∷ x) [] y y' h k e = absurd (first_is c b x h cc)
one_cut c (b ∷ x) (b' ∷ x') y y' h k e = let r = one_cut c x x' y y' (rest_lacks c b x h) (rest_lacks c b' x' k) cc in (cc, r.1)
