use Rattle.std.proofs.Common.{◌≡◌, Some, length, sym, ap, ◌∙◌, arith, slice_get}
use Rattle.indexes.specs.Told.{next, place_of}
use Rattle.indexes.specs.Ledger.{came}
use Rattle.indexes.proofs.Ledgers.{one_more, no_more, few_came}
use Rattle.indexes.proofs.ledger_index.LedgerRows.replay.Goals as goal

pub loop-turn-preserved : goal.loop-turn-preserved
loop-turn-preserved g c =
    let s = c.args.self.now in
    let k = c.place_key-key.result in
    let is : slice_get (came s.table.entries k) c.loop-turn.turn ≡ Some c.in-Some.entry = sym (s.found_by_turn k c.loop-turn.turn) ∙ sym c.in-Some.ensures in
    let more = one_more g.T.Namespaced.space (came s.table.entries k) c.loop-turn.turn c.in-Some.entry is in
    (c.next-place.ensures ∙ ap (λ p. next g.T.Namespaced.space p c.in-Some.entry) c.loop-turn.invariant.0 ∙ more.0, more.1)

pub returns-clause-place : goal.returns-clause-place
returns-clause-place g c =
    let s = c.args.self.now in
    let k = c.place_key-key.result in
    let few = few_came s.table.entries k in
    let all : c.loop-turn.place ≡ place_of g.T.Namespaced.space (came s.table.entries k) = c.loop-turn.invariant.0 ∙ (no_more g.T.Namespaced.space (came s.table.entries k) c.loop-turn.turn c.loop-turn.invariant.1 (omega arith)).0 in
    rw c.place_key-key.ensures at all

pub returns-clause-turns : goal.returns-clause-turns
returns-clause-turns g c =
    let s = c.args.self.now in
    let k = c.place_key-key.result in
    let few = few_came s.table.entries k in
    let l = c.loop-turn.invariant.1 in
    let all : c.len.result ≡ length (came s.table.entries k) = omega arith in
    rw c.place_key-key.ensures at all
