use Rattle.std.proofs.Common.{◌≡◌, ◌≤◌, take, fold, length}
use Rattle.item_scope.specs.declared.place.Place.TheVariants.{Empty}
use Rattle.indexes.specs.Told.{next}
use Rattle.indexes.specs.Ledger.{came}
use Rattle.indexes.proofs.ledger_index.LedgerRows.replay.Given as goal

abbrev pub invariant-loop-turn : goal.invariant-loop-turn
invariant-loop-turn g l =
    (l.place ≡ fold (next g.T.Namespaced.space) Empty (take l.turn (came l.self.table.entries l.key)))
    × (l.turn ≤ length (came l.self.table.entries l.key))
