use Rattle.std.proofs.Common.{◌≡◌, [], take, vec_items}
use Rattle.world_lines.specs.Crates.{crates_from}
use Rattle.world_lines.proofs.tables.Tables.crates.Given as goal

abbrev pub invariant-loop-edition : goal.invariant-loop-edition
invariant-loop-edition l = vec_items l.rows ≡ crates_from 0 (take l.edition-index l.edition-items) []

abbrev pub invariant-loop-number : goal.invariant-loop-number
invariant-loop-number l = vec_items l.rows ≡ crates_from 0 (vec_items l.self.editions) (take l.number l.row-items)
