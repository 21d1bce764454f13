use Rattle.path_resolution.specs.Existing.{AnswerExists}
use Rattle.path_resolution.specs.Order.{InnerFirst, SourceOrder, OwnNamesFirst}
use Rattle.path_resolution.specs.Shown.{ShowsVisible}
use Rattle.std.proofs.Common.{sym, subst}
use Rattle.path_resolution.specs.Judges.{SeeTheSame}
use Rattle.path_resolution.proofs.Abroad.{asked-elsewhere}
use Rattle.path_resolution.proofs.Accepted.{of-answer}
use Rattle.path_resolution.proofs.Existing.{answer-exists}
use Rattle.path_resolution.proofs.Judged.{see-the-same}
use Rattle.path_resolution.proofs.Likewise.{crate-paths-alike}
use Rattle.path_resolution.proofs.Ordered.{inner-first, source-order, own-names-first}
use Rattle.path_resolution.proofs.Showing.{shows-visible}
use Rattle.path_resolution.proofs.path_resolution.resolve_path_fp_with_macro.Goals as goal

pub returns-clause-inner : goal.returns-clause-inner
returns-clause-inner g c =
    let v = g.I.Index.view c.args.index.now in
    let k = c.args.path.now.kind in
    of-answer v c.args.question k _ _ _ (InnerFirst v c.args.question k _) c.as_slice.ensures.value c.answer.ensures (λ passed. inner-first v c.args.question k _)

pub returns-clause-order : goal.returns-clause-order
returns-clause-order g c =
    let v = g.I.Index.view c.args.index.now in
    let k = c.args.path.now.kind in
    of-answer v c.args.question k _ _ _ (SourceOrder v c.args.question k _) c.as_slice.ensures.value c.answer.ensures (λ passed. source-order v c.args.question k _)

pub returns-clause-own_names : goal.returns-clause-own_names
returns-clause-own_names g c =
    let v = g.I.Index.view c.args.index.now in
    let k = c.args.path.now.kind in
    of-answer v c.args.question k _ _ _ (OwnNamesFirst v c.args.question k _) c.as_slice.ensures.value c.answer.ensures (λ passed. own-names-first v c.args.question k _)

pub returns-clause-visible : goal.returns-clause-visible
returns-clause-visible g c =
    let s = c.args.index.now in
    let v = g.I.Index.view s in
    let k = c.args.path.now.kind in
    of-answer v c.args.question k _ _ _ (ShowsVisible v c.args.question k) c.as_slice.ensures.value c.answer.ensures (λ passed. shows-visible v _ _ c.args.question k _ (g.met.I.Index.tied s) (g.met.I.Tree.ruled s))

pub returns-clause-alike : goal.returns-clause-alike
returns-clause-alike g c =
    crate-paths-alike (g.I.Index.view c.args.index.now) c.args.question c.args.path.now.kind _ _ _ c.as_slice.ensures.value c.answer.ensures

pub returns-clause-elsewhere : goal.returns-clause-elsewhere
returns-clause-elsewhere g c =
    let s = c.args.index.now in
    asked-elsewhere (g.I.Index.view s) _ _ c.args.question _ (g.met.I.Index.tied s) (g.met.I.Tree.ruled s)

pub returns-clause-exists : goal.returns-clause-exists
returns-clause-exists g c =
    let s = c.args.index.now in
    let v = g.I.Index.view s in
    let k = c.args.path.now.kind in
    of-answer v c.args.question k _ _ _ (AnswerExists v) c.as_slice.ensures.value c.answer.ensures
    (λ passed. answer-exists v _ _ c.args.question k _ (g.met.I.Index.tied s) (g.met.I.Tree.ruled s) (g.met.I.Index.sound s) passed)

pub returns-clause-judge : goal.returns-clause-judge
returns-clause-judge g c =
    let s = c.args.index.now in
    subst SeeTheSame (sym (g.met.I.Index.tied s)) (see-the-same _ _ (g.met.I.Tree.ruled s))
