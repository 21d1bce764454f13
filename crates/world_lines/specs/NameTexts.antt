-- The bytes of a world's name list.
use Rattle.std.specs.Prelude.{ℕ, zero, suc, if◌then◌else◌, List, [], ◌++◌, codes, decimal, min, nat_lt, vec_items}
use Rattle.hir_def.specs.Builtins.{text_at}
use Rattle.world_lines.specs.declared.tables.List.{List as NameList}
use Rattle.world_lines.specs.declared.tables.List.TheVariants.{Numbered, Told}

-- a built-in name, or `n` and the name's number
abbrev pub name_line : ℕ → List ℕ
name_line n = (if nat_lt n 19 then text_at (record { 0 = n }) else codes "n" ++ decimal n) ++ codes "\n"

abbrev pub name_lines : ℕ → List ℕ
name_lines zero = []
name_lines (suc n) = name_lines n ++ name_line n

-- the bytes that are told, or a line for each name, of which an index has 65,536 at most
abbrev pub listed : NameList → ℕ → List ℕ
listed Numbered names = name_lines (min names 65536)
listed (Told bytes) names = vec_items bytes
