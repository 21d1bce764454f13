use Rattle.std.proofs.Common.{◌≡◌, vec_items}
use Rattle.world_lines.specs.NameTexts.{name_lines}
use Rattle.world_lines.proofs.tables.Tables.names_text.Given as goal

abbrev pub invariant-loop-name : goal.invariant-loop-name
invariant-loop-name l = vec_items l.lines ≡ name_lines l.name
