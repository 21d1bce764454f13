-- The rows that a tree over tables tells from.
use Rattle.nameres.specs.declared.tree_table.TreeTable.{TreeTable}
use Rattle.nameres.specs.Shapes.{Rules}
use Rattle.nameres.specs.Rows.{Rows, rows_of, tree_of, row_number}
use Rattle.nameres.specs.Checked.{rules-of}

abbrev pub rows_in : TreeTable → Rows
rows_in t = rows_of t.tables

-- they tell a tree that keeps the rules
pub rules_in : (t : TreeTable) → Rules (tree_of (rows_in t)) row_number
rules_in t = rules-of (rows_of t.tables) t.modules_good t.blocks_good t.crates_good
