use Rattle.std.proofs.Common.{refl}
use Rattle.entries.specs.Visibilities.{chain_of, inside, settled}
use Rattle.path_resolution.specs.Outward.{outward_from}
use Rattle.path_resolution.specs.Singles.{single_of}
use Rattle.path_resolution.specs.SmallTree.{small_tree}
use Rattle.path_resolution.specs.Walks.{walk_of}
use Rattle.path_resolution.proofs.small_tree.case_count.Goals as goal

pub returns-clause-cases : goal.returns-clause-cases
unfolding chain_of inside settled outward_from single_of small_tree walk_of
returns-clause-cases c = record {
  a = refl;
  a-f_hidden = refl;
  a-f = refl;
  a-b-f_hidden = refl;
  a-b-f = refl;
  e-v = refl;
  e-f = refl;
  e-v-f = refl;
  g = refl;
  c-g_hidden = refl;
}
