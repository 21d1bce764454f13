-- What is known of who sees takes one visibility more in.
use Rattle.std.proofs.Common.{◌≡◌, true, cond, Option, Some, sym, subst, refl, ◌∙◌, ◌↔◌, inl, inr, rules}
use Rattle.std.proofs.lemmas.Bool.{cases_Bool}
use Rattle.entries.specs.contracts.visibility.VisibilityPartialEq.TheImpl.{eq-value as same_visibility}
use Rattle.entries.specs.declared.visibility.Visibility.{Visibility}
use Rattle.nameres.specs.Shapes.{Shape}
use Rattle.reports.specs.Sights.{known, AreSeen, SeesBy}
use Rattle.reports.specs.declared.sights.Sights.{Sights}
use Rattle.wording.specs.declared.seen.Seen.{Seen}

same : (a b : Visibility) → (same_visibility.it a b ≡ true) → a ≡ b
same a b e = let law : (same_visibility.it a b ≡ true) ↔ (a ≡ b) = search rules in law.0 e

pub one_more : (t : Shape) (s : Sights) (vis : Visibility) (x : Seen) (has : Visibility → Option Seen)
    → AreSeen t s → SeesBy t s.most vis x → ((q : Visibility) → has q ≡ cond (same_visibility.it vis q) (Some x) (known s q))
    → (q : Visibility) (y : Seen) → has q ≡ Some y → SeesBy t s.most q y
unfolding AreSeen
one_more t s vis x has old new u q y h =
    elim (cases_Bool (same_visibility.it vis q)) [
      | inl e ↦
          let v : has q ≡ Some x = u q ∙ rw e refl in
          let k : x ≡ y = cc in
          subst (λ w. SeesBy t s.most w y) (same vis q e) (subst (SeesBy t s.most vis) k new)
      | inr e ↦ let v : has q ≡ known s q = u q ∙ rw e refl in old q y (sym v ∙ h)
    ]
