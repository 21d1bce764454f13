-- Each model of a pile is made over what the models below it made.
use Rattle.std.proofs.Common.{◌≡◌, ℕ, List, ap, sym, subst}
use Rattle.item_scope.specs.InTurn.InTurn.{done, next}
use Rattle.item_scope.specs.Views.{View}
use Rattle.item_scope.proofs.InTurn.{one_more}
use Rattle.firmware.specs.declared.file.Firmware.{Firmware}
use Rattle.firmware.specs.declared.pile.Part.TheVariants.{Model}
use Rattle.firmware.specs.declared.pile.Pile.{Pile}
use Rattle.firmware.specs.declared.pile.Pile.TheVariants.{One, Two, Three}
use Rattle.firmware.specs.Piles.{top_of}
use Rattle.variants.specs.declared.own_places.OwnPlace.{OwnPlace}
use Rattle.variants.specs.Own.{overlaid}
use Rattle.firmware.specs.declared.deliveries.Outcome.{Outcome}
use Rattle.model_runs.specs.Made.{IsMadeBy, RanOver}
use Rattle.firmware.specs.Parts.{deliveries_in}
use Rattle.model_reports.specs.Results.{IsMadeOver, StandsOn, HasPile}

module _ (f : Firmware) where
  -- a variant over an index, whose own places are what the deliveries of a model made
  module _ {I : Type 0} (view : I → View) (b c : I) (m : ℕ) (own : List OwnPlace) where
    pub made_over : IsMadeBy (deliveries_in f (Model m)) (view b) own → c ≡ b → IsMadeOver f (view b) m (overlaid (view c) own)
    made_over made e = (own, (made, ap (λ (x : I). overlaid (view x) own) e))

    pub ran_over : (os : List Outcome) → RanOver (view b) (deliveries_in f (Model m)) os own → c ≡ b → IsMadeOver f (view b) m (overlaid (view c) own)
    ran_over os ran e = made_over (os, ran) e

  -- the index below the top of a pile: any, what one model made, or what two made
  pub on_any : (p : Pile) (top : ℕ) → p ≡ One top → (v : View) → StandsOn f p v
  on_any p top e v = subst (λ (q : Pile). StandsOn f q v) (sym e) (v, done)

  pub on_one : (p : Pile) (a top : ℕ) → p ≡ Two a top → (base v : View) → IsMadeOver f base a v → StandsOn f p v
  on_one p a top e base v h = subst (λ (q : Pile). StandsOn f q v) (sym e) (base, next h done)

  pub on_two : (p : Pile) (a b top : ℕ) → p ≡ Three a b top → (base u v : View) → IsMadeOver f base a u → IsMadeOver f u b v → StandsOn f p v
  on_two p a b top e base u v h k = subst (λ (q : Pile). StandsOn f q v) (sym e) (base, next h (next k done))

  -- the top of a pile, made over it
  pub has_pile : (p : Pile) (below v : View) → StandsOn f p below → IsMadeOver f below (top_of p) v → HasPile f p v
  has_pile p below v s h = (s.0, one_more (top_of p) s.1 h)
