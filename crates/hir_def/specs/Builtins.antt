-- The built-in types by name: the name numbers 0 to 18 in the table's order.
use Rattle.std.specs.Prelude.{ℕ, ◌+◌, cond, List, [], ◌∷◌, Some, None, codes, Option, nat_lt, slice_index_or}
use Rattle.hir_def.specs.declared.Name.{Name}
use Rattle.hir_def.specs.declared.builtin_type.BuiltinInt.{BuiltinInt}
use Rattle.hir_def.specs.declared.builtin_type.BuiltinInt.TheVariants.{Isize, I8, I16, I32, I64, I128}
use Rattle.hir_def.specs.declared.builtin_type.BuiltinUint.{BuiltinUint}
use Rattle.hir_def.specs.declared.builtin_type.BuiltinUint.TheVariants.{Usize, U8, U16, U32, U64, U128}
use Rattle.hir_def.specs.declared.builtin_type.BuiltinFloat.{BuiltinFloat}
use Rattle.hir_def.specs.declared.builtin_type.BuiltinFloat.TheVariants.{F16, F32, F64, F128}
use Rattle.hir_def.specs.declared.builtin_type.BuiltinType.{BuiltinType}
use Rattle.hir_def.specs.declared.builtin_type.BuiltinType.TheVariants.{Char, Bool as Boolean, Str, Int, Uint, Float}

abbrev pub Row : Type 0
Row = List ℕ × BuiltinType

-- a name's text and its type, by name number
abbrev pub table : List Row
table =
    (codes "char", Char) ∷
    (codes "bool", Boolean) ∷
    (codes "str", Str) ∷
    (codes "isize", Int Isize) ∷
    (codes "i8", Int I8) ∷
    (codes "i16", Int I16) ∷
    (codes "i32", Int I32) ∷
    (codes "i64", Int I64) ∷
    (codes "i128", Int I128) ∷
    (codes "usize", Uint Usize) ∷
    (codes "u8", Uint U8) ∷
    (codes "u16", Uint U16) ∷
    (codes "u32", Uint U32) ∷
    (codes "u64", Uint U64) ∷
    (codes "u128", Uint U128) ∷
    (codes "f16", Float F16) ∷
    (codes "f32", Float F32) ∷
    (codes "f64", Float F64) ∷
    (codes "f128", Float F128) ∷
    []

abbrev pub row : Name → Row
row n = slice_index_or table n.0 ([], Char)

abbrev pub type_at : Name → Option BuiltinType
type_at n = cond (nat_lt n.0 19) (Some (row n).1) None

abbrev pub text_at : Name → List ℕ
text_at n = (row n).0

-- the other way: signed types from 3 on, unsigned from 9, floats from 15, in the order of their declarations
abbrev pub int_at : BuiltinInt → ℕ
int_at Isize = 0
int_at I8 = 1
int_at I16 = 2
int_at I32 = 3
int_at I64 = 4
int_at I128 = 5

abbrev pub uint_at : BuiltinUint → ℕ
uint_at Usize = 0
uint_at U8 = 1
uint_at U16 = 2
uint_at U32 = 3
uint_at U64 = 4
uint_at U128 = 5

abbrev pub float_at : BuiltinFloat → ℕ
float_at F16 = 0
float_at F32 = 1
float_at F64 = 2
float_at F128 = 3

abbrev pub number_of : BuiltinType → ℕ
number_of Char = 0
number_of Boolean = 1
number_of Str = 2
number_of (Int i) = 3 + int_at i
number_of (Uint u) = 9 + uint_at u
number_of (Float f) = 15 + float_at f

abbrev pub name_of : BuiltinType → Name
name_of b = record { 0 = number_of b }
