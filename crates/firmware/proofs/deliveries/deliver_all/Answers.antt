use Rattle.std.proofs.Common.{◌≡◌, Bool, Result, rules, vec_items, get_or, refl, None, [], List, subst, sym}
use Rattle.firmware.specs.declared.deliveries.Outcome.{Outcome}
use Rattle.firmware.specs.Deliveries.{Made}
use Rattle.hir_def.specs.declared.fault.IndexFault.{IndexFault}
use Rattle.item_scope.specs.declared.delivery.Delivery.{Delivery}
use Rattle.item_scope.specs.InTurn.InTurn.{done}
use Rattle.item_scope.proofs.InTurn.{one_more}
use Rattle.firmware.specs.declared.file.DeliveryStatement.{DeliveryStatement}
use Rattle.firmware.proofs.Ran.{run_more, run_all}
use Rattle.firmware.proofs.deliveries.deliver_all.Goals as goal

-- nothing was made before the first
none_made : {I : Type 0} (Delivers : I → Delivery → Result Bool IndexFault → I → Type 0) (x : I) (os : List Outcome) → os ≡ [] → Made Delivers x os x
none_made Delivers x os e = subst (λ (os : List Outcome). Made Delivers x os x) (sym e) done

-- what a read past the end would give
blank : DeliveryStatement
blank = record {
  delivery = record { receiver = record { 0 = 0 }; name = record { 0 = 0 }; entries = record { types = None; values = None; macros = None }; import = None };
  name = record { ref_ptr = (0, 0); now = [] };
  «module» = record { ref_ptr = (0, 0); now = [] };
  line = 0;
}

pub loop-statement-init : goal.loop-statement-init
loop-statement-init g c = record { ran = search rules; made = search (rules, none_made); len = search rules; room = search rules }

pub loop-statement-preserved : goal.loop-statement-preserved
unfolding blank
loop-statement-preserved g c =
    let told = c.loop-statement.invariant in
    let o : Outcome = record { statement = get_or c.args.statements.now c.loop-statement.statement-index blank; result = c.deliver-result.result } in
    record {
      ran =
          run_more (g.I.Index.view c.args.index.now) (g.I.Index.left c.args.index.now) c.args.statements.now c.loop-statement.statement-index blank c.loop-statement-test.true
          (vec_items c.loop-statement.outcomes) (vec_items c.push_reserved.new.self) o (g.I.Index.view c.loop-statement.index) (g.I.Index.left c.loop-statement.index)
          (g.I.Index.view c.deliver-result.new.index) (g.I.Index.left c.deliver-result.new.index) told.ran refl c.deliver-result.ensures.takes c.push_reserved.ensures.items;
      made =
          subst (λ (os : List Outcome). Made g.I.Recipient.delivers c.args.index.now os c.deliver-result.new.index) (sym c.push_reserved.ensures.items)
          (one_more o told.made c.deliver-result.ensures.delivers);
      len = search rules;
      room = search rules;
    }

pub returns-clause-ran : goal.returns-clause-ran
returns-clause-ran g c =
    run_all (g.I.Index.view c.args.index.now) (g.I.Index.left c.args.index.now) c.args.statements.now c.loop-statement.statement-index (vec_items c.loop-statement.outcomes)
    (g.I.Index.view c.loop-statement.index) (g.I.Index.left c.loop-statement.index) c.loop-statement-test.false c.loop-statement.invariant.ran
