-- Every item is kept or cut.
use Rattle.std.proofs.Common.{◌≡◌, suc, ◌+◌, cond, List, [], ◌∷◌, length, Option, Some, None, refl, arith}
use Rattle.std.specs.Prelude.{filter}
use Rattle.hir_def.specs.declared.ModuleDefId.{ModuleDefId}
use Rattle.cuts.specs.declared.reached.Reason.{Reason}
use Rattle.cuts.specs.Verdicts.{is_kept, is_cut}

pub all_counted : (said : ModuleDefId → Option Reason) (items : List ModuleDefId) → length (filter (λ i. is_kept (said i)) items) + length (filter (λ i. is_cut (said i)) items) ≡ length items
all_counted said [] = refl
all_counted said (x ∷ items) =
    let more = all_counted said items in
    let kept = filter (λ i. is_kept (said i)) items in
    let cut = filter (λ i. is_cut (said i)) items in
    elim (said x) as (λ o. length (cond (is_kept o) (x ∷ kept) kept) + length (cond (is_cut o) (x ∷ cut) cut) ≡ suc (length items)) [
      | None ↦ omega arith
      | Some r ↦ omega arith
    ]
