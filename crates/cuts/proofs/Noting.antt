-- A table takes one more reason in.
use Rattle.std.proofs.Common.{◌≡◌, true, false, cond, Option, Some, None, is_some, sym, refl, ap, ◌∙◌, ◌↔◌, inl, inr, rules}
use Rattle.std.specs.Option.{option_or}
use Rattle.std.proofs.lemmas.Bool.{cases_Bool}
use Rattle.hir_def.specs.declared.ModuleDefId.{ModuleDefId}
use Rattle.hir_def.specs.contracts.ModuleDefIdPartialEq.TheImpl.{eq-value as same_def}
use Rattle.cuts.specs.declared.reached.Reason.{Reason}
use Rattle.cuts.specs.Reached.{noted}

same_item : (a b : ModuleDefId) → (same_def.it a b ≡ true) → a ≡ b
same_item a b e = let law : (same_def.it a b ≡ true) ↔ (a ≡ b) = search rules in law.0 e

fresh : (o : Option Reason) (r : Reason) → is_some o ≡ false → ◌≡◌ {A = Option Reason} (Some r) (option_or o (Some r))
fresh None r e = refl
fresh (Some x) r e = cc

there : (o : Option Reason) (r : Reason) → is_some o ≡ true → o ≡ option_or o (Some r)
there None r e = cc
there (Some x) r e = refl

none_more : (o : Option Reason) → o ≡ option_or o None
none_more None = refl
none_more (Some x) = refl

module _ (has : ModuleDefId → Option Reason) (item : ModuleDefId) (r : Reason) where
  -- an item that had none
  pub anew : (has' : ModuleDefId → Option Reason) → is_some (has item) ≡ false → ((q : ModuleDefId) → has' q ≡ cond (same_def.it item q) (Some r) (has q)) → (q : ModuleDefId) → has' q ≡ option_or (has q) (noted item r q)
  anew has' e u q =
      elim (cases_Bool (same_def.it item q)) [
        | inl t ↦ let k = same_item item q t in u q ∙ rw t (fresh (has q) r (ap (λ (x : ModuleDefId). is_some (has x)) (sym k) ∙ e))
        | inr t ↦ u q ∙ rw t (none_more (has q))
      ]

  -- an item that has one
  pub stays : is_some (has item) ≡ true → (q : ModuleDefId) → has q ≡ option_or (has q) (noted item r q)
  stays e q =
      elim (cases_Bool (same_def.it item q)) [
        | inl t ↦ let k = same_item item q t in rw t (there (has q) r (ap (λ (x : ModuleDefId). is_some (has x)) (sym k) ∙ e))
        | inr t ↦ rw t (none_more (has q))
      ]

-- three more reasons, one after the other
pub thrice : (o a b c p q r : Option Reason) → p ≡ option_or o a → q ≡ option_or p b → r ≡ option_or q c → r ≡ option_or o (option_or (option_or a b) c)
thrice None a b c p q r e g h = rw (h, g, e)
thrice (Some x) a b c p q r e g h = rw (h, g, e)
