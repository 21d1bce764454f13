-- The walk name by name: what the loop over the names keeps.
use Rattle.std.proofs.Common.{◌≡◌, ℕ, ◌+◌, ◌<◌, ◌≤◌, List, length, get_or, drop, add_assoc}
use Rattle.std.proofs.lemmas.List.{drop_more, drop_all}
use Rattle.hir_def.specs.declared.Name.{Name}
use Rattle.path_resolution.specs.declared.remaining_segments.Reached.{Reached}
use Rattle.path_resolution.specs.declared.remaining_segments.Step.{Step}
use Rattle.path_resolution.specs.Walks.{Sight, whole, step_of, on_step, walk_of}

module _ (w : Sight) (i : ℕ) (ns : List Name) (k : ℕ) (r : Reached) where
  -- one name more
  pub walk-turn : (d : Name) (s : Step) → k < length ns → s ≡ step_of w r (i + k) (get_or ns k d) → on_step s (λ next. walk_of w next (i + (k + 1)) (drop (k + 1) ns)) ≡ walk_of w r (i + k) (drop k ns)
  unfolding walk_of
  walk-turn d s h e = rw (drop_more ns k d h, e, add_assoc i k 1)

  -- no name is left
  pub walk-end : length ns ≤ k → whole r ≡ walk_of w r (i + k) (drop k ns)
  unfolding walk_of
  walk-end h = rw (drop_all k ns h)
