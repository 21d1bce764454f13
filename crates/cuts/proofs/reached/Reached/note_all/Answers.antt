use Rattle.hir_def.specs.declared.Namespace.{Namespace}
use Rattle.hir_def.specs.declared.Namespace.TheVariants as namespace
use Rattle.cuts.specs.Reached.{said, reason_at}
use Rattle.cuts.proofs.Noting.{thrice}
use Rattle.cuts.proofs.reached.Reached.note_all.Goals as goal

pub returns : goal.returns
returns c = λ item.
    let at = λ (s : Namespace). reason_at c.args.definitions.now c.args.path c.args.entries s item in
    thrice (said c.args.self.now item) (at namespace.Types) (at namespace.Values) (at namespace.Macros) (said c.note_in.new.self item) (said c.note_in-2.new.self item)
    (said c.note_in-3.new.self item) (c.in_ok-note_in.ensures item) (c.in_ok-note_in-2.ensures item) (c.in_ok-note_in-3.ensures item)
