-- One name more is one line more.
use Rattle.std.proofs.Common.{◌≡◌, ℕ, suc, ◌+◌, ◌++◌, refl, arith}
use Rattle.world_lines.specs.NameTexts.{name_line, name_lines}

pub one_line_more : (n : ℕ) → name_lines (n + 1) ≡ name_lines n ++ name_line n
one_line_more n = let e : n + 1 ≡ suc n = omega arith in rw e refl
