-- A def is read where its kind and its number are.
use Rattle.std.proofs.Common.{◌≡◌, ℕ, true, List, ◌∷◌, ◌++◌, refl, sym, ◌∙◌, append_assoc, codes, Some, None, Option}
use Rattle.std.specs.Fmt.{decimal}
use Rattle.std.proofs.lemmas.Fmt.{decimal_injective}
use Rattle.std.proofs.Common.{arith}
use Rattle.source_text.specs.Numbers.{Plain}
use Rattle.hir_def.specs.declared.AdtId.TheVariants as adt
use Rattle.hir_def.specs.declared.ModuleDefId.{ModuleDefId}
use Rattle.hir_def.specs.declared.ModuleDefId.TheVariants as def
use Rattle.world_commands.specs.EntryTexts.{def_kind, def_number}
use Rattle.source_text.specs.Words.{lacks}
use Rattle.world_commands.specs.Words.{ReadAs, IsDef, IsDefOf}
use Rattle.source_text.proofs.Cuts.{one_cut}

kind_lacks : (d : ModuleDefId) → lacks 58 (def_kind d) ≡ true
kind_lacks (def.ModuleId m) = refl
kind_lacks (def.FunctionId x) = refl
kind_lacks (def.AdtId (adt.StructId s)) = refl
kind_lacks (def.AdtId (adt.UnionId u)) = refl
kind_lacks (def.AdtId (adt.EnumId e)) = refl
kind_lacks (def.EnumVariantId x) = refl
kind_lacks (def.ConstId c) = refl
kind_lacks (def.StaticId s) = refl
kind_lacks (def.TraitId t) = refl
kind_lacks (def.TypeAliasId t) = refl
kind_lacks (def.BuiltinType b) = refl
kind_lacks (def.MacroId m) = refl

as_cut : (d : ModuleDefId) (w : List ℕ) → IsDef d w → w ≡ def_kind d ++ 58 ∷ decimal (def_number d)
as_cut d w h = h.1 ∙ append_assoc (def_kind d) (codes ":") (decimal (def_number d))

pub parts : (w x y : List ℕ) → lacks 58 x ≡ true → w ≡ x ++ 58 ∷ y → (d : ModuleDefId) → IsDef d w → (x ≡ def_kind d) × (y ≡ decimal (def_number d))
parts w x y l e d s = one_cut 58 x (def_kind d) y (decimal (def_number d)) l (kind_lacks d) (sym e ∙ as_cut d w s)

pub no_colon : (w : List ℕ) → ((x y : List ℕ) → ¬ (w ≡ x ++ 58 ∷ y)) → ReadAs IsDef w None
no_colon w h d s = h (def_kind d) (decimal (def_number d)) (as_cut d w s)

pub no_number : (w x y : List ℕ) → lacks 58 x ≡ true → w ≡ x ++ 58 ∷ y → Plain y None → ReadAs IsDef w None
no_number w x y l e p d s = p (def_number d) s.0 (parts w x y l e d s).1

pub def_of : (w x y : List ℕ) (n : ℕ) (o : Option ModuleDefId) → lacks 58 x ≡ true → w ≡ x ++ 58 ∷ y → Plain y (Some n) → ReadAs (IsDefOf n) x o → ReadAs IsDef w o
def_of w x y n None l e p r = λ d s.
    let c = parts w x y l e d s in
    r d (c.0, decimal_injective n (def_number d) (omega (arith, p.0)) (omega (arith, s.0)) (sym p.1 ∙ c.1))
def_of w x y n (Some d) l e p r = (rw (← r.1) p.0, rw (← r.1, ← r.0, ← p.1) (e ∙ sym (append_assoc x (codes ":") y)))
