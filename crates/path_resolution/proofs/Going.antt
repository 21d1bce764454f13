-- Asking outward: what the loop over the modules keeps.
use Rattle.std.proofs.Common.{◌≡◌, ℕ, true, false, if◌then◌else◌, List, [], ◌∷◌, Some, None, Option, refl, sym, ap, ◌∙◌}
use Rattle.std.specs.List.{fold}
use Rattle.hir_def.specs.declared.BlockId.{BlockId}
use Rattle.hir_def.specs.declared.ModuleId.{ModuleId}
use Rattle.hir_def.specs.declared.Name.{Name}
use Rattle.nameres.specs.Shapes.{Shape, Rules, block_exit}
use Rattle.path_text.specs.declared.mod_path.PathKind.{PathKind}
use Rattle.entries.specs.Visibilities.{chain_of, settled}
use Rattle.entries.proofs.Climbs.{chain-step, chain-end, exit-falls, settled_here, settled-exit}
use Rattle.item_scope.specs.Views.{View}
use Rattle.path_resolution.specs.declared.question.Question.{Question}
use Rattle.path_resolution.specs.declared.answer.ResolvePathResult.{ResolvePathResult as Answer}
use Rattle.path_resolution.specs.declared.single.Asked.{Asked}
use Rattle.path_resolution.specs.Outward.{unasked, joined_to, turn, with_preludes, outward_from}
use Rattle.path_resolution.specs.Singles.{single_of}

-- what is asked after the module m: its outside module and so on outward, or the preludes
abbrev pub rest : View → Question → PathKind → List Name → Asked → ModuleId → Option ModuleId → Answer
rest v q k ns b m None = with_preludes v q k ns (v.fixed.tree.block_of m) b
rest v q k ns b m (Some p) = outward_from v q k ns b p

module _ (v : View) (t : Shape) (tied : v.fixed.tree ≡ t) (q : Question) (k : PathKind) (ns : List Name) (m : ModuleId) (a b : Asked) (asks : b ≡ turn v q k ns a m) where
  -- a block root was asked, and its outside module is next
  pub outward-turn : (rank : ModuleId → ℕ) (p : ModuleId) → Rules t rank → Some p ≡ block_exit t m → outward_from v q k ns b p ≡ outward_from v q k ns a m
  unfolding outward_from
  outward-turn rank p r e = rw (asks, tied, settled-exit t rank r m p e, chain-step t rank (block_exit t) (exit-falls t rank r) m p e)

  -- the last module was asked
  pub outward-end : None ≡ block_exit t m → with_preludes v q k ns (v.fixed.tree.block_of m) b ≡ outward_from v q k ns a m
  unfolding outward_from
  outward-end e = rw (asks, tied, settled_here t m e, chain-end t (block_exit t) m e)

  pub rest-turn : (rank : ModuleId → ℕ) → Rules t rank → (o : Option ModuleId) → o ≡ block_exit t m → rest v q k ns b m o ≡ outward_from v q k ns a m
  rest-turn rank r None e = outward-end e
  rest-turn rank r (Some p) e = outward-turn rank p r e

-- the first answer is joined to none
pub first-turn : (v : View) (q : Question) (k : PathKind) (ns : List Name) (m : ModuleId) → single_of v q k ns m ≡ turn v q k ns unasked m
first-turn v q k ns m = refl

-- after an answer that is not final the next module is asked
pub next-turn : (v : View) (q : Question) (k : PathKind) (ns : List Name) (m : ModuleId) (a : Asked) → a.is_final ≡ false
    → joined_to a (single_of v q k ns m) ≡ turn v q k ns a m
next-turn v q k ns m a goes-on = sym (ap (λ f. if f then a else joined_to a (single_of v q k ns m)) goes-on)

-- after a final answer nothing is asked
module _ (v : View) (q : Question) (k : PathKind) (ns : List Name) (b : Asked) (final : b.is_final ≡ true) where
  asks-none : (ms : List ModuleId) → fold (turn v q k ns) b ms ≡ b
  asks-none [] = refl
  asks-none (m ∷ ms) = ap (λ f. fold (turn v q k ns) (if f then b else joined_to b (single_of v q k ns m)) ms) final ∙ asks-none ms

  pub no-preludes : (o : Option BlockId) → with_preludes v q k ns o b ≡ b.answer
  no-preludes None = refl
  no-preludes (Some block) = rw final refl

  pub rest-final : (m : ModuleId) (o : Option ModuleId) → rest v q k ns b m o ≡ b.answer
  unfolding outward_from
  rest-final m None = no-preludes (v.fixed.tree.block_of m)
  rest-final m (Some p) = rw (asks-none (chain_of v.fixed.tree (block_exit v.fixed.tree) p)) (no-preludes (v.fixed.tree.block_of (settled v.fixed.tree p)))
