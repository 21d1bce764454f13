-- Rows whose entries are of their places' namespaces.
use Rattle.std.specs.Prelude.{Bool, List}
use Rattle.hir_def.specs.contracts.NamespacePartialEq.TheImpl.{eq-value as same_namespace}
use Rattle.keyed.specs.declared.row.Row.{Row}
use Rattle.index_tables.specs.RowTests.{fitting}
use Rattle.indexes.specs.declared.entry.Entry.{Entry}
use Rattle.indexes.specs.declared.entry.PlaceKey.{PlaceKey}
use Rattle.indexes.specs.Spaces.{namespace_of}

abbrev pub is_of : PlaceKey → Entry → Bool
is_of k e = same_namespace.it (namespace_of e) k.namespace

abbrev pub all_of : List (Row PlaceKey Entry) → Bool
all_of rows = fitting is_of rows
