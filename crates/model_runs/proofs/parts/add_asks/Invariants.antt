use Rattle.std.proofs.Common.{◌≡◌, ◌++◌, ◌-◌, map, vec_items}
use Rattle.std.specs.List.{filter_map, range_with_len}
use Rattle.model_runs.specs.Parts.{asking, asked_at, asked_in}
use Rattle.model_runs.proofs.parts.add_asks.Given as goal

-- with what is left to come
abbrev pub invariant-loop-number : goal.invariant-loop-number
invariant-loop-number l =
    map asking (vec_items l.asks) ++ filter_map (asked_at l.survey) (range_with_len l.number (l.end - l.number))
    ≡ map asking (vec_items l.fn.asks) ++ asked_in l.fn.survey l.fn.part
