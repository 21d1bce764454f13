-- What the report on items counts.
use Rattle.std.specs.Prelude.{List, fold, length, vec_items, Ok, Err, Result}
use Rattle.entries.specs.Accounts.{blank, with_item, with_refused}
use Rattle.entries.specs.Viewers.{viewers_of}
use Rattle.entries.specs.declared.account.Account.{Account}
use Rattle.firmware.specs.declared.file.Declared.{Declared}
use Rattle.firmware.specs.declared.survey.Survey.{Survey}
use Rattle.hir_def.specs.declared.ModuleId.{ModuleId}
use Rattle.hir_def.specs.declared.fault.TreeFault.{TreeFault}
use Rattle.index_tables.specs.LoadedTables.{rows_in}
use Rattle.nameres.specs.Rows.{tree_of}
use Rattle.nameres.specs.Shapes.{Shape}

-- the module tree of a file
abbrev pub shape_in : Survey → Shape
shape_in s = tree_of (rows_in s.tables).tree

-- one item more, which these of the tree's modules see; or one refused more
abbrev pub with_viewers : Shape → Account → Result (List ModuleId) TreeFault → Account
with_viewers t a (Ok ms) = with_item a (length ms) t.modules
with_viewers t a (Err f) = with_refused a

abbrev pub with_declared : Shape → Account → Declared → Account
with_declared t a item = with_viewers t a (viewers_of t item.vis)

-- item by item
abbrev pub items_account : Shape → List Declared → Account
items_account t items = fold (with_declared t) blank items

-- of all items of a file
abbrev pub account_of : Survey → Account
account_of s = items_account (shape_in s) (vec_items s.firmware.now.items)
