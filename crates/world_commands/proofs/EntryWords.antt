-- An entry is read where its def, its visibility and its import are.
use Rattle.std.proofs.Common.{◌≡◌, ◌≢◌, false, subst, ℕ, ◌<◌, ◌^◌, true, List, ◌∷◌, ◌++◌, refl, sym, ◌∙◌, append_assoc, codes, Some, None, arith, inl}
use Rattle.std.specs.Fmt.{decimal}
use Rattle.std.specs.Str.{bytes_eq}
use Rattle.hir_def.specs.declared.AdtId.TheVariants as adt
use Rattle.hir_def.specs.declared.MacroId.{MacroId}
use Rattle.hir_def.specs.declared.ModuleDefId.{ModuleDefId}
use Rattle.hir_def.specs.declared.ModuleDefId.TheVariants as def
use Rattle.entries.specs.declared.visibility.Visibility.{Visibility}
use Rattle.entries.specs.declared.visibility.Visibility.TheVariants.{Module, PubCrate, Public}
use Rattle.entries.specs.declared.visibility.VisibilityExplicitness.TheVariants.{Explicit, Implicit}
use Rattle.item_scope.specs.Views.{Types}
use Rattle.world_commands.specs.EntryTexts.{def_kind, def_number, visibility_text, import_text, entry_text}
use Rattle.entries.specs.Entries.{macro_entry}
use Rattle.source_text.specs.Words.{lacks}
use Rattle.world_commands.specs.Words.{ReadAs, IsDef, IsVisibility, FitsVisibility, IsImport, IsEntry, IsTypes, IsMacros}
use Rattle.source_text.proofs.Cuts.{one_cut, lacks_not}
use Rattle.world_commands.proofs.Defs.{parts}
use Rattle.source_text.proofs.Decimals.{both, decimal_lacks}

kind_lacks : (d : ModuleDefId) → lacks 44 (def_kind d) ≡ true
kind_lacks (def.ModuleId m) = refl
kind_lacks (def.FunctionId x) = refl
kind_lacks (def.AdtId (adt.StructId s)) = refl
kind_lacks (def.AdtId (adt.UnionId u)) = refl
kind_lacks (def.AdtId (adt.EnumId e)) = refl
kind_lacks (def.EnumVariantId x) = refl
kind_lacks (def.ConstId c) = refl
kind_lacks (def.StaticId s) = refl
kind_lacks (def.TraitId t) = refl
kind_lacks (def.TypeAliasId t) = refl
kind_lacks (def.BuiltinType b) = refl
kind_lacks (def.MacroId m) = refl

abbrev def_text : ModuleDefId → List ℕ
def_text d = def_kind d ++ codes ":" ++ decimal (def_number d)

def_lacks : (d : ModuleDefId) → def_number d < 2 ^ 32 → lacks 44 (def_text d) ≡ true
def_lacks d h = both 44 (def_kind d ++ codes ":") (decimal (def_number d)) (both 44 (def_kind d) (codes ":") (kind_lacks d) refl) (decimal_lacks 44 (def_number d) (inl (omega arith)) h)

visibility_lacks : (v : Visibility) → FitsVisibility v → lacks 44 (visibility_text v) ≡ true
visibility_lacks Public h = refl
visibility_lacks (PubCrate c) h = both 44 (codes "crate:") (decimal c.0) refl (decimal_lacks 44 c.0 (inl (omega arith)) h)
visibility_lacks (Module m Explicit) h = both 44 (codes "in:" ++ decimal m.0) (codes ":e") (both 44 (codes "in:") (decimal m.0) refl (decimal_lacks 44 m.0 (inl (omega arith)) h)) refl
visibility_lacks (Module m Implicit) h = both 44 (codes "in:" ++ decimal m.0) (codes ":i") (both 44 (codes "in:") (decimal m.0) refl (decimal_lacks 44 m.0 (inl (omega arith)) h)) refl

as_cut : (it : Types) (w : List ℕ) → w ≡ entry_text (Some it) → w ≡ def_text it.def ++ 44 ∷ (visibility_text it.vis ++ 44 ∷ import_text it.import)
as_cut it w e = e ∙ simp append_assoc refl

first : (w x y : List ℕ) → lacks 44 x ≡ true → w ≡ x ++ 44 ∷ y → (it : Types) → IsEntry it w → (x ≡ def_text it.def) × (y ≡ visibility_text it.vis ++ 44 ∷ import_text it.import)
unfolding IsEntry
first w x y l e it s = one_cut 44 x (def_text it.def) y (visibility_text it.vis ++ 44 ∷ import_text it.import) l (def_lacks it.def s.0) (sym e ∙ as_cut it w s.3)

second : (w x y v i : List ℕ) → lacks 44 x ≡ true → w ≡ x ++ 44 ∷ y → lacks 44 v ≡ true → y ≡ v ++ 44 ∷ i → (it : Types) → IsEntry it w → (v ≡ visibility_text it.vis) × (i ≡ import_text it.import)
unfolding IsEntry
second w x y v i l e k f it s = one_cut 44 v (visibility_text it.vis) i (import_text it.import) k (visibility_lacks it.vis s.1) (sym f ∙ (first w x y l e it s).1)

pub no_entry : (w : List ℕ) → ((x y : List ℕ) → ¬ (w ≡ x ++ 44 ∷ y)) → ReadAs IsEntry w None
unfolding IsEntry
no_entry w h it s = h (def_text it.def) (visibility_text it.vis ++ 44 ∷ import_text it.import) (as_cut it w s.3)

pub no_rest : (w x y : List ℕ) → lacks 44 x ≡ true → w ≡ x ++ 44 ∷ y → ((v i : List ℕ) → ¬ (y ≡ v ++ 44 ∷ i)) → ReadAs IsEntry w None
no_rest w x y l e h it s = h (visibility_text it.vis) (import_text it.import) (first w x y l e it s).1

pub no_def : (w x y : List ℕ) → lacks 44 x ≡ true → w ≡ x ++ 44 ∷ y → ReadAs IsDef x None → ReadAs IsEntry w None
unfolding IsEntry
no_def w x y l e h it s = h it.def (s.0, (first w x y l e it s).0)

pub no_visibility : (w x y v i : List ℕ) → lacks 44 x ≡ true → w ≡ x ++ 44 ∷ y → lacks 44 v ≡ true → y ≡ v ++ 44 ∷ i → ReadAs IsVisibility v None → ReadAs IsEntry w None
unfolding IsEntry
no_visibility w x y v i l e k f h it s = h it.vis (s.1, (second w x y v i l e k f it s).0)

pub no_import : (w x y v i : List ℕ) → lacks 44 x ≡ true → w ≡ x ++ 44 ∷ y → lacks 44 v ≡ true → y ≡ v ++ 44 ∷ i → ReadAs IsImport i None → ReadAs IsEntry w None
unfolding IsEntry IsImport
no_import w x y v i l e k f h it s = h it.import (s.2, (second w x y v i l e k f it s).1)

not_so : (w : List ℕ) → bytes_eq w (codes "macro") ≡ false → ¬ (w ≡ codes "macro")
not_so w n e = let b : bytes_eq (codes "macro") (codes "macro") ≡ false = subst (λ t. bytes_eq t (codes "macro") ≡ false) e n in cc

only_macro : (d : ModuleDefId) → def_kind d ≡ codes "macro" → (m : MacroId) × (d ≡ def.MacroId m)
only_macro (def.ModuleId m) e = absurd (not_so (codes "mod") refl e)
only_macro (def.FunctionId x) e = absurd (not_so (codes "fn") refl e)
only_macro (def.AdtId (adt.StructId s)) e = absurd (not_so (codes "struct") refl e)
only_macro (def.AdtId (adt.UnionId u)) e = absurd (not_so (codes "union") refl e)
only_macro (def.AdtId (adt.EnumId n)) e = absurd (not_so (codes "enum") refl e)
only_macro (def.EnumVariantId x) e = absurd (not_so (codes "variant") refl e)
only_macro (def.ConstId c) e = absurd (not_so (codes "const") refl e)
only_macro (def.StaticId s) e = absurd (not_so (codes "static") refl e)
only_macro (def.TraitId t) e = absurd (not_so (codes "trait") refl e)
only_macro (def.TypeAliasId t) e = absurd (not_so (codes "alias") refl e)
only_macro (def.BuiltinType b) e = absurd (not_so (codes "builtin") refl e)
only_macro (def.MacroId m) e = (m, refl)

no_dash : (it : Types) (w : List ℕ) → IsEntry it w → ¬ (w ≡ codes "-")
unfolding IsEntry
no_dash it w s e =
    let h : lacks 44 w ≡ false = rw (as_cut it w s.3) (lacks_not 44 (def_text it.def) (visibility_text it.vis ++ 44 ∷ import_text it.import)) in
    let k : lacks 44 w ≡ true = rw e refl in cc

same_def : (it other : Types) (w : List ℕ) → IsEntry it w → IsEntry other w → def_text it.def ≡ def_text other.def
unfolding IsEntry
same_def it other w s k = (first w (def_text it.def) (visibility_text it.vis ++ 44 ∷ import_text it.import) (def_lacks it.def s.0) (as_cut it w s.3) other k).0

fits_def : (it : Types) (w : List ℕ) → IsEntry it w → IsDef it.def (def_text it.def)
unfolding IsEntry
fits_def it w s = (s.0, refl)

pub not_macro : (it : Types) (w : List ℕ) → IsEntry it w → ((m : MacroId) → it.def ≢ def.MacroId m) → ReadAs IsMacros w None
unfolding IsMacros IsTypes
not_macro it w s h None k = no_dash it w s k
not_macro it w s h (Some m) k =
    let p = parts (def_text it.def) (codes "macro") (decimal m.def.0) refl (same_def it (macro_entry m) w s k) it.def (fits_def it w s) in
    let o = only_macro it.def (sym p.0) in h o.0 o.1
