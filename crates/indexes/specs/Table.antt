-- The table: a row for each place to which an entry came, which holds what holds the place.
use Rattle.std.specs.Prelude.{false, if◌then◌else◌, List, [], ◌∷◌, Some, None, Option}
use Rattle.keyed.specs.Entries.{find, put}
use Rattle.indexes.specs.declared.entry.Entry.{Entry}
use Rattle.indexes.specs.declared.entry.PlaceKey.{PlaceKey}
use Rattle.indexes.specs.contracts.entry.PlaceKeyPartialEq.TheImpl.{eq-value as same_key}
use Rattle.indexes.specs.Storing.{Storing}

abbrev pub one_or_none : Option Entry → List Entry
one_or_none None = []
one_or_none (Some e) = e ∷ []

abbrev pub table_storing : Storing PlaceKey
table_storing = record {
  came = λ rows k. one_or_none (find same_key.it rows k);
  stored = λ rows k holds e. if holds then put same_key.it rows k e else rows;
  each = false;
}
