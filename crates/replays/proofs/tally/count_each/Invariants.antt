use Rattle.std.proofs.Common.{◌≡◌, ◌≢◌, ℕ, List, Some, count_by, unwrap_or, take}
use Rattle.std.specs.BTreeMap.{get_by_text}
use Rattle.std.specs.Str.{bytes_eq}
use Rattle.replays.proofs.tally.count_each.Given as goal

abbrev pub invariant-loop-name : goal.invariant-loop-name
invariant-loop-name l =
    ((q : List ℕ) → unwrap_or (get_by_text l.counts q) 0 ≡ count_by (λ n. bytes_eq q n.now) (take l.name-index l.names))
    × ((q : List ℕ) → get_by_text l.counts q ≢ Some 0)
