use Rattle.std.proofs.Common.{rules, ◌++◌, sym, ap, ◌∙◌, append_assoc, drop, encode_utf8_all}
use Rattle.std.proofs.Output.{has_written_append}
use Rattle.source_text.specs.Cells.{cell_chars, shown}
use Rattle.source_text.proofs.CellLists.{shown_step}
use Rattle.source_text.proofs.excerpt.ShownDisplay.fmt.Goals as goal

pub loop-cell-preserved : goal.loop-cell-preserved
loop-cell-preserved g c p =
    let held = c.loop-cell.invariant p in
    let text = encode_utf8_all (cell_chars c.in-Some.cell) in
    let rest = encode_utf8_all (shown (drop c.in-Some.size c.loop-cell.rest.now)) in (
      held.0 ++ text,
      (
        has_written_append _ _ _ _ _ _ held.1.0 (search rules),
        rw c.split_at.ensures.back (append_assoc held.0 text rest ∙ ap (λ t. held.0 ++ t) (sym (shown_step c.loop-cell.rest.now c.in-Some.cell c.in-Some.size (search rules))) ∙ held.1.1),
      ),
    )
