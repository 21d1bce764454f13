-- The laws, from what was done to the indexes.
use Rattle.std.proofs.Common.{◌≡◌, ℕ, List, [], ◌∷◌, Some, ◌∙◌}
use Rattle.std.proofs.lemmas.List.Sums.{fold-append}
use Rattle.hir_def.specs.declared.ModuleId.{ModuleId}
use Rattle.nameres.specs.Shapes.{Shape, Rules}
use Rattle.path_text.specs.declared.mod_path.ModPath.{ModPath}
use Rattle.item_scope.specs.declared.delivery.Delivery.{Delivery}
use Rattle.item_scope.specs.Views.{View}
use Rattle.path_resolution.specs.declared.question.Question.{Question}
use Rattle.runs.specs.declared.calls.Call.{Call}
use Rattle.runs.specs.declared.calls.Call.TheVariants.{Deliver}
use Rattle.runs.specs.declared.compare.Outcome.{Outcome}
use Rattle.runs.specs.Chains.{ChainLaw}
use Rattle.runs.specs.Compared.{Tried}
use Rattle.runs.specs.Hidden.{HiddenLaw}
use Rattle.runs.specs.Order.{OrderLaw}
use Rattle.runs.specs.Runs.{State, told, told_after}
use Rattle.runs.proofs.Chained.{chain-law}
use Rattle.runs.proofs.Made.{ran_told}
use Rattle.runs.proofs.Ordered.{fixed-after, order-law}
use Rattle.runs.proofs.Sighted.{Tested, tested-in}
use Rattle.runs.proofs.Unseen.{hidden-law}

-- an index whose tree keeps the rules
module _ (tree : Shape) (rank : ModuleId → ℕ) (rules : Rules tree rank) {s t : State} (tied : s.view.fixed.tree ≡ tree)
    {given made : List Call} {q : Question} {path : ModPath} {d : Delivery} {o : Outcome} (x : Tried s given made q path d o t) where
  abbrev then : View
  then = told_after s.view made

  tested : Tested then.fixed.tree q.original_module
  tested = tested-in tree rank s.view then q.original_module rules tied (fixed-after s.view made)

  pub chain-tried : ChainLaw (told_after s.view made) q path o.before
  chain-tried = chain-law then q path.kind path.names.items o.before tested x.before

  pub hidden-tried : HiddenLaw (told_after s.view made) d t.view q path o.before o.after
  hidden-tried =
      hidden-law then t.view d o.further q path o.before o.after tested
      (ran_told x.ran ∙ fold-append told s.view made (Deliver d (Some o.further) ∷ [])) x.before x.after

pub order-tried : {s t u w : State} {given made asked done : List Call} {q : Question} {path : ModPath} {d : Delivery} {o p : Outcome} → Tried s given made q path d o t → Tried u asked done q path d p w
    → OrderLaw s.view u.view made done o.before p.before
order-tried {s} {t} {u} {w} {given} {made} {asked} {done} {q} {path} {d} {o} {p} x y = order-law s.view u.view made done q path o.before p.before x.before y.before
