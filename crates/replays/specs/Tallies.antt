-- What a tally says of verdicts.
use Rattle.std.specs.Prelude.{◌≡◌, ◌≢◌, ℕ, List, Some, count_by}
use Rattle.std.specs.Option.{unwrap_or}
use Rattle.std.specs.List.{filter_map}
use Rattle.std.specs.Str.{bytes_eq}
use Rattle.std.specs.BTreeMap.{get_by_text}
use Rattle.replays.specs.declared.tally.Tally.{Tally}
use Rattle.replays.specs.declared.verdict.Verdict.{Verdict}
use Rattle.replays.specs.Verdicts.{is_alike, is_wrong, name_of}

-- each kind is counted, and each name
pub record Tallies (verdicts : List Verdict) (t : Tally) : Type 0 where
  pub alike : t.alike ≡ count_by is_alike verdicts
  pub wrong : t.wrong ≡ count_by is_wrong verdicts
  pub named : (name : List ℕ) → unwrap_or (get_by_text t.named name) 0 ≡ count_by (λ n. bytes_eq name n.now) (filter_map name_of verdicts)
  -- no name is listed that none has
  pub listed : (name : List ℕ) → get_by_text t.named name ≢ Some 0
