use Rattle.std.proofs.Common.{◌≡◌, is_ok, Ok, sym, ap, ◌∙◌, subst, rules}
use Rattle.path_text.specs.Paths.{read_of}
use Rattle.path_text.proofs.ReadLaws.{Means, laws, readable}
use Rattle.path_text.proofs.read.read_path.Goals as goal

pub returns-in_err-kind-clause-exact : goal.returns-in_err-kind-clause-exact
returns-in_err-kind-clause-exact c =
    let d = subst (Means c.args.list.now c.args.text.now) (sym c.read.ensures ∙ c.in_err-kind.was) (laws c.args.list.now c.args.text.now) in
    search rules

pub returns-in_err-to_vec-clause-memory : goal.returns-in_err-to_vec-clause-memory
returns-in_err-to_vec-clause-memory c =
    let d = readable c.args.list.now c.args.text.now (ap is_ok (sym c.read.ensures ∙ c.in_ok-kind.was)) in
    search rules

pub returns-clause-exact : goal.returns-clause-exact
returns-clause-exact c =
    let e : read_of c.args.list.now c.args.text.now ≡ Ok (c.in_ok-kind.kind, c.in_ok-to_vec.field-0.items) = search rules in
    subst (Means c.args.list.now c.args.text.now) e (laws c.args.list.now c.args.text.now)
