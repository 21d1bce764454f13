-- Two ranges that are written alike are one.
use Rattle.std.proofs.Common.{◌≡◌, ℕ, ◌<◌, ◌^◌, List, ◌++◌, refl, ap, sym, arith, codes, get_or}
use Rattle.std.specs.Fmt.{decimal}
use Rattle.std.proofs.lemmas.Fmt.{decimal_injective}
use Rattle.std.proofs.lemmas.List.{append_cancel_left}
use Rattle.hir_def.specs.declared.CrateId.{CrateId}
use Rattle.hir_def.specs.declared.ModuleId.{ModuleId}
use Rattle.wording.specs.declared.range.Range.{Range}
use Rattle.wording.specs.declared.range.Range.TheVariants.{All, Crate, Inside}
use Rattle.wording.specs.Ranges.{range_text, Told}

one_number : (front : List ℕ) (a b : ℕ) → a < 2 ^ 32 → b < 2 ^ 32 → front ++ decimal a ≡ front ++ decimal b → a ≡ b
one_number front a b h k e = decimal_injective a b (omega arith) (omega arith) (append_cancel_left front (decimal a) (decimal b) e)

crate_of : (a b : CrateId) → a.0 ≡ b.0 → a ≡ b
crate_of a b e = ap (λ (n : ℕ). let c : CrateId = record { 0 = n } in c) e

module_of : (a b : ModuleId) → a.0 ≡ b.0 → a ≡ b
module_of a b e = ap (λ (n : ℕ). let c : ModuleId = record { 0 = n } in c) e

differ : (a b : ℕ) → a ≡ 99 → b ≡ 105 → a ≡ b → ⊥
differ a b p q r = omega arith

crate_or_inside : (m n : ℕ) → codes "crate " ++ decimal m ≡ codes "inside " ++ decimal n → ⊥
crate_or_inside m n e = differ 99 105 refl refl (ap (λ (t : List ℕ). get_or t 0 0) e)

pub told_apart : (r s : Range) → Told r → Told s → range_text r ≡ range_text s → r ≡ s
told_apart All All h k e = refl
told_apart All (Crate d) h k e = cc
told_apart All (Inside n) h k e = cc
told_apart (Crate c) All h k e = cc
told_apart (Crate c) (Crate d) h k e = ap Crate (crate_of c d (one_number (codes "crate ") c.0 d.0 h k e))
told_apart (Crate c) (Inside n) h k e = absurd (crate_or_inside c.0 n.0 e)
told_apart (Inside m) All h k e = cc
told_apart (Inside m) (Crate c) h k e = absurd (crate_or_inside c.0 m.0 (sym e))
told_apart (Inside m) (Inside n) h k e = ap Inside (module_of m n (one_number (codes "inside ") m.0 n.0 h k e))
