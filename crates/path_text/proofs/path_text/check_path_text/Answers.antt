use Rattle.std.proofs.Common.{subst, rules, ◌≡◌, Some, None}
use Rattle.path_text.specs.Texts.{stop_of}
use Rattle.path_text.proofs.Reading.{Judged, judged}
use Rattle.path_text.proofs.path_text.check_path_text.Goals as goal

pub returns-in-Some-halt-clause-exact : goal.returns-in-Some-halt-clause-exact
returns-in-Some-halt-clause-exact c =
    let e : stop_of c.args.text.now ≡ Some c.in-Some-halt.place = search rules in
    subst (Judged c.args.text.now) e (judged c.args.text.now)

pub returns-clause-exact : goal.returns-clause-exact
returns-clause-exact c =
    let e : stop_of c.args.text.now ≡ None = search rules in
    subst (Judged c.args.text.now) e (judged c.args.text.now)
