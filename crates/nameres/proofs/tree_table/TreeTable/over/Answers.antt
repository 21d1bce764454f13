use Rattle.nameres.specs.Rows.{rows_of}
use Rattle.nameres.proofs.Accepted.{modules-of, blocks-of, crates-of, few-rows}
use Rattle.nameres.proofs.tree_table.TreeTable.over.Goals as goal

pub invariant_of-result : goal.invariant_of-result
invariant_of-result c =
    let t = rows_of c.args.tables in
    let a = c.requires in
    record { modules_good = modules-of t a; blocks_good = blocks-of t a; crates_good = crates-of t a; few = few-rows t a }
