use Rattle.indexes.proofs.Stored.{all_come, all_stored}
use Rattle.indexes.proofs.place_rows.arrive_all.Goals as goal

pub returns-then-values-clause-told : goal.returns-then-values-clause-told
returns-then-values-clause-told g c = all_come _ _ _ _ _ _ _ _ _ _ c.brought-brought.ensures c.arrive-types.ensures c.arrive-values.ensures c.arrive-macros.ensures

pub returns-then-values-clause-stores : goal.returns-then-values-clause-stores
returns-then-values-clause-stores g c = all_stored _ _ _ _ _ _ _ _ _ _ c.brought-brought.ensures c.arrive-types.ensures c.arrive-values.ensures c.arrive-macros.ensures

pub returns-else-values-clause-told : goal.returns-else-values-clause-told
returns-else-values-clause-told g c = all_come _ _ _ _ _ _ _ _ _ _ c.brought-brought.ensures c.arrive-types.ensures c.arrive-values.ensures c.arrive-macros.ensures

pub returns-else-values-clause-stores : goal.returns-else-values-clause-stores
returns-else-values-clause-stores g c = all_stored _ _ _ _ _ _ _ _ _ _ c.brought-brought.ensures c.arrive-types.ensures c.arrive-values.ensures c.arrive-macros.ensures
