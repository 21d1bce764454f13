use Rattle.std.proofs.Common.{sym, ◌∙◌}
use Rattle.path_text.proofs.Gathering.{read_told}
use Rattle.path_text.proofs.read.read.Goals as goal

pub returns : goal.returns
returns c = c.read.ensures ∙ sym (read_told c.args.list.now c.args.text.now c.in_ok-gather.field-0 (sym c.gather.ensures ∙ c.in_ok-gather.was))
