-- What an answer names exists.
use Rattle.std.specs.Prelude.{◌≡◌, Bool, true, Some, None, Option}
use Rattle.entries.specs.declared.per_ns.Item.{Item}
use Rattle.entries.specs.declared.per_ns.PerNs.{PerNs}
use Rattle.item_scope.specs.IndexData.{IndexData, def_in, macro_in, item_in}
use Rattle.item_scope.specs.Views.{View}
use Rattle.path_resolution.specs.declared.answer.ResolvePathResult.{ResolvePathResult as Answer}

-- an entry, if there is one: its def, where that is counted, and what its visibility names
abbrev pub Exists : {D M : Type 0} → (IndexData → D → Bool) → IndexData → Option (Item D M) → Type 0
Exists def_in f None = Unit {0}
Exists def_in f (Some it) = item_in def_in f it ≡ true

pub record AllExist (f : IndexData) (p : PerNs) : Type 0 where
  pub types : Exists def_in f p.types
  pub values : Exists def_in f p.values
  pub macros : Exists macro_in f p.macros

abbrev pub AnswerExists : View → Answer → Type 0
AnswerExists v a = AllExist v.fixed a.resolved_def
