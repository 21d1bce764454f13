use Rattle.std.proofs.Common.{◌≡◌, vec_items, get_or, Some, None, [], ◌++◌, ◌∙◌, sym, rules}
use Rattle.std.proofs.lemmas.List.{append-nil}
use Rattle.firmware.specs.declared.file.DeliveryStatement.{DeliveryStatement}
use Rattle.model_runs.specs.Calls.{outcome}
use Rattle.model_runs.proofs.Steps.{one_outcome_more}
use Rattle.model_runs.proofs.model_run.outcomes_of.Goals.{in-Some+in_ok-push-in-Some, in-None}
use Rattle.model_runs.proofs.model_run.outcomes_of.Goals as goal

-- what a read past the end would give
blank : DeliveryStatement
blank = record {
  delivery = record { receiver = record { 0 = 0 }; name = record { 0 = 0 }; entries = record { types = None; values = None; macros = None }; import = None };
  name = record { ref_ptr = (0, 0); now = [] };
  «module» = record { ref_ptr = (0, 0); now = [] };
  line = 0;
}

pub loop-i-preserved : goal.loop-i-preserved
unfolding blank
loop-i-preserved c =
    let ss = c.args.statements.now in
    let i = c.loop-i.i in
    let before = vec_items c.loop-i.outcomes in
    let after = vec_items c.match-result_at.outcomes in
    elim c.match-result_at.branch [
      | in-Some+in_ok-push-in-Some w ↦
          let n : after ≡ before ++ outcome (get_or ss i blank) (Some w.in-Some.result) = search rules in
          one_outcome_more ss c.args.calls.now i blank c.loop-i-test.true before after (Some w.in-Some.result) c.loop-i.invariant (sym w.in-Some.is ∙ c.result_at.ensures) n
      | in-None w ↦
          let n : after ≡ before = search rules in
          one_outcome_more ss c.args.calls.now i blank c.loop-i-test.true before after None c.loop-i.invariant (sym w.in-None.is ∙ c.result_at.ensures) (n ∙ sym (append-nil before))
    ]
