use Rattle.std.proofs.Common.{◌≡◌, ◌-◌, Some, None, Ok, length, sym, ◌∙◌, refl}
use Rattle.hir_def.specs.declared.fault.IndexFault.TheVariants.{NoRows}
use Rattle.item_scope.specs.Deliveries.{refused, Takes}
use Rattle.variants.specs.Own.{overlaid}
use Rattle.variants.proofs.Taken.{come, holds, room, sound, falls, takes, full}
use Rattle.variants.proofs.variant.Variant.deliver.Goals as goal

pub arrive_all-requires : goal.arrive_all-requires
arrive_all-requires g c =
    let s = c.args.self.now in
    let v = g.I.Index.view s.below.now in
    let none : refused (overlaid v s.own) (64 - length s.own) c.args.delivery ≡ None = sym c.refusal.ensures ∙ c.in_default.is in
    room v s.own c.args.delivery none

pub invariant_of-self : goal.invariant_of-self
invariant_of-self g c =
    let s = c.args.self.now in
    let v = g.I.Index.view s.below.now in
    let none : refused (overlaid v s.own) (64 - length s.own) c.args.delivery ≡ None = sym c.refusal.ensures ∙ c.in_default.is in
    let rows : c.arrive_all.new.self ≡ come v s.own c.args.delivery = rw (c.types-types.ensures, c.values-values.ensures, c.macros-macros.ensures) at c.arrive_all.ensures.rows in
    record { sound = rw rows (sound v s.own c.args.delivery none s.sound) }

pub returns : goal.returns
returns g c =
    let s = c.args.self.now in
    let d = c.args.delivery in
    let v = g.I.Index.view s.below.now in
    let none : refused (overlaid v s.own) (64 - length s.own) d ≡ None = sym c.refusal.ensures ∙ c.in_default.is in
    let rows : c.arrive_all.new.self ≡ come v s.own d = rw (c.types-types.ensures, c.values-values.ensures, c.macros-macros.ensures) at c.arrive_all.ensures.rows in
    let changed : c.arrive_all.result ≡ holds v s.own d = rw (c.types-types.ensures, c.values-values.ensures, c.macros-macros.ensures) at c.arrive_all.ensures.changed in
    let t : Takes (overlaid v s.own) (64 - length s.own) d (Ok c.arrive_all.result) (overlaid v c.arrive_all.new.self) (64 - length c.arrive_all.new.self) = rw (rows, changed) (takes v s.own d none) in
    record {
      takes = t;
      copies = record { below = refl; rows = rows; left = rw rows (falls v s.own d none) };
      full = λ used unfaulty. absurd (let e : c.refusal.result ≡ Some (NoRows 0) = full v s.own d c.refusal.result c.refusal.ensures used unfaulty in let n = c.in_default.is in cc);
    }
