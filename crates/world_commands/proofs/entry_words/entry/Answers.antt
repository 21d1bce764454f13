use Rattle.world_commands.proofs.EntryWords.{no_rest, no_def, no_visibility, no_import}
use Rattle.world_commands.proofs.entry_words.entry.Goals as goal

pub returns-in_err-vis : goal.returns-in_err-vis
returns-in_err-vis c =
    rw c.from_residual-in_err-vis.ensures (no_rest c.args.word.now c.in_ok-def.def.now c.in_ok-def.rest.now c.in_ok-def.ensures.0 c.in_ok-def.ensures.1 c.in_err-vis.ensures)

pub returns-in_err-module_def : goal.returns-in_err-module_def
returns-in_err-module_def c =
    rw c.from_residual-in_err-module_def.ensures (no_def c.args.word.now c.in_ok-def.def.now c.in_ok-def.rest.now c.in_ok-def.ensures.0 c.in_ok-def.ensures.1 c.in_err-module_def.ensures)

pub returns-in_err-visibility : goal.returns-in_err-visibility
returns-in_err-visibility c =
    rw c.from_residual-in_err-visibility.ensures (no_visibility c.args.word.now c.in_ok-def.def.now c.in_ok-def.rest.now c.in_ok-vis.vis.now c.in_ok-vis.imported.now c.in_ok-def.ensures.0 c.in_ok-def.ensures.1 c.in_ok-vis.ensures.0 c.in_ok-vis.ensures.1 c.in_err-visibility.ensures)

pub returns-in_err-import : goal.returns-in_err-import
returns-in_err-import c =
    rw c.from_residual-in_err-import.ensures (no_import c.args.word.now c.in_ok-def.def.now c.in_ok-def.rest.now c.in_ok-vis.vis.now c.in_ok-vis.imported.now c.in_ok-def.ensures.0 c.in_ok-def.ensures.1 c.in_ok-vis.ensures.0 c.in_ok-vis.ensures.1 c.in_err-import.ensures)
