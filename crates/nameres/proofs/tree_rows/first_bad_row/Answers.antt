use Rattle.std.proofs.Common.{arith}
use Rattle.nameres.specs.Rows.{rows_of, blank_module, blank_block, blank_crate}
use Rattle.nameres.proofs.Turns.{in-modules, in_blocks, blocks-fit, in-crates, crates-fit, in-none}
use Rattle.nameres.proofs.tree_rows.first_bad_row.Goals as goal

pub returns-in-Some : goal.returns-in-Some
returns-in-Some c = in-modules (rows_of c.args.tables.now) _ (c.in-Some.ensures blank_module)

pub overflow_add-result : goal.overflow_add-result
overflow_add-result c = omega (arith, blocks-fit (rows_of c.args.tables.now) (c.in_default.ensures blank_module) _ (c.in-Some-first_bad.ensures blank_block))

pub returns-in-Some-first_bad : goal.returns-in-Some-first_bad
returns-in-Some-first_bad c =
    in_blocks (rows_of c.args.tables.now) (c.in_default.ensures blank_module) _ (c.in-Some-first_bad.ensures blank_block)

pub overflow_add-result-in-Some-first_bad-2-2 : goal.overflow_add-result-in-Some-first_bad-2-2
overflow_add-result-in-Some-first_bad-2-2 c =
    omega (
      arith,
      crates-fit (rows_of c.args.tables.now) (c.in_default.ensures blank_module) (c.in_default-first_bad.ensures blank_block) _ (c.in-Some-first_bad-2.ensures blank_crate),
    )

pub returns-in-Some-first_bad-2 : goal.returns-in-Some-first_bad-2
returns-in-Some-first_bad-2 c =
    in-crates (rows_of c.args.tables.now) (c.in_default.ensures blank_module) (c.in_default-first_bad.ensures blank_block) _ (c.in-Some-first_bad-2.ensures blank_crate)

pub returns-in-None : goal.returns-in-None
returns-in-None c =
    in-none (rows_of c.args.tables.now) (c.in_default.ensures blank_module) (c.in_default-first_bad.ensures blank_block) (c.in-None.ensures blank_crate)
