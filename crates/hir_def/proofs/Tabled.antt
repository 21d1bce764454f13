-- The table of built-in types and the numbers of its names agree, shown once over the whole table.
use Rattle.std.proofs.Common.{◌≡◌, ℕ, zero, suc, ◌+◌, ◌<◌, ◌≤◌, Bool, true, false, cond, ◌&&◌, eqb, ltb, List, [], ◌∷◌, length, get_or, Some, None, Option, sym, refl, ap, ◌∙◌, subst, add-zero, arith, MatchOption}
use Rattle.std.proofs.lemmas.Bool.{and_parts, eqb-true, ltb-true, ltb-false}
use Rattle.hir_def.specs.declared.Name.{Name}
use Rattle.hir_def.specs.declared.builtin_type.BuiltinInt.TheVariants.{Isize, I8, I16, I32, I64, I128}
use Rattle.hir_def.specs.declared.builtin_type.BuiltinUint.TheVariants.{Usize, U8, U16, U32, U64, U128}
use Rattle.hir_def.specs.declared.builtin_type.BuiltinFloat.TheVariants.{F16, F32, F64, F128}
use Rattle.hir_def.specs.declared.builtin_type.BuiltinType.{BuiltinType}
use Rattle.hir_def.specs.declared.builtin_type.BuiltinType.TheVariants.{Char, Bool as Boolean, Str, Int, Uint, Float}
use Rattle.hir_def.specs.declared.builtin_type.BuiltinInt.{BuiltinInt}
use Rattle.hir_def.specs.declared.builtin_type.BuiltinUint.{BuiltinUint}
use Rattle.hir_def.specs.declared.builtin_type.BuiltinFloat.{BuiltinFloat}
use Rattle.hir_def.specs.contracts.builtin_type.BuiltinInt.{the_type as IntType}
use Rattle.hir_def.specs.contracts.builtin_type.BuiltinUint.{the_type as UintType}
use Rattle.hir_def.specs.contracts.builtin_type.BuiltinFloat.{the_type as FloatType}
use denote.Enum.Declared.{tag_of}
use Rattle.hir_def.specs.Builtins.{Row, table, row, type_at, int_at, uint_at, float_at, number_of, name_of}

-- each row's type has the row's number
abbrev in_order : List Row → ℕ → Bool
in_order [] k = true
in_order (r ∷ rs) k = eqb (number_of r.1) k && in_order rs (k + 1)

at_row : (rs : List Row) (k : ℕ) → in_order rs k ≡ true → (i : ℕ) (d : Row) → i < length rs → number_of (get_or rs i d).1 ≡ k + i
at_row [] k t i d h = absurd (omega arith)
at_row (r ∷ rs) k t zero d h = eqb-true _ _ (and_parts _ _ t).0 ∙ sym (add-zero k)
at_row (r ∷ rs) k t (suc i) d h =
    let below : i < length rs = omega arith in
    omega (arith, at_row rs (k + 1) (and_parts (eqb (number_of r.1) k) _ t).1 i d below)

name_of_row : (n : Name) → n.0 < 19 → name_of (row n).1 ≡ n
name_of_row n h = let e : number_of (row n).1 ≡ n.0 = omega (arith, at_row table 0 refl n.0 ([], Char) h) in λ i. record { 0 = e i }

-- what an answer by the table names
pub by_table : (n : Name) (r : Option BuiltinType) → r ≡ type_at n → record { value : r ≡ type_at n; names : MatchOption r (19 ≤ n.0) (λ b. name_of b ≡ n) }
by_table n r e = record { value = e; names = subst (λ (o : Option BuiltinType). MatchOption o (19 ≤ n.0) (λ b. name_of b ≡ n)) (sym e) (told (ltb n.0 19) refl) }
  where
    told : (t : Bool) → ltb n.0 19 ≡ t → MatchOption (cond t (Some (row n).1) None) (19 ≤ n.0) (λ b. name_of b ≡ n)
    told true t = name_of_row n (ltb-true n.0 19 t)
    told false t = ltb-false n.0 19 t

pub type_of_name : (b : BuiltinType) → type_at (name_of b) ≡ Some b
type_of_name Char = refl
type_of_name Boolean = refl
type_of_name Str = refl
type_of_name (Int Isize) = refl
type_of_name (Int I8) = refl
type_of_name (Int I16) = refl
type_of_name (Int I32) = refl
type_of_name (Int I64) = refl
type_of_name (Int I128) = refl
type_of_name (Uint Usize) = refl
type_of_name (Uint U8) = refl
type_of_name (Uint U16) = refl
type_of_name (Uint U32) = refl
type_of_name (Uint U64) = refl
type_of_name (Uint U128) = refl
type_of_name (Float F16) = refl
type_of_name (Float F32) = refl
type_of_name (Float F64) = refl
type_of_name (Float F128) = refl

pub int_tag : (i : BuiltinInt) → tag_of IntType i ≡ int_at i
int_tag Isize = refl
int_tag I8 = refl
int_tag I16 = refl
int_tag I32 = refl
int_tag I64 = refl
int_tag I128 = refl

pub uint_tag : (u : BuiltinUint) → tag_of UintType u ≡ uint_at u
uint_tag Usize = refl
uint_tag U8 = refl
uint_tag U16 = refl
uint_tag U32 = refl
uint_tag U64 = refl
uint_tag U128 = refl

pub float_tag : (f : BuiltinFloat) → tag_of FloatType f ≡ float_at f
float_tag F16 = refl
float_tag F32 = refl
float_tag F64 = refl
float_tag F128 = refl

pub named : (b : BuiltinType) (n : Name) → n.0 ≡ number_of b → record { value : n ≡ name_of b; found : type_at n ≡ Some b }
named b n e =
    let same : n ≡ name_of b = λ i. record { 0 = e i } in
    record { value = same; found = ap type_at same ∙ type_of_name b }
