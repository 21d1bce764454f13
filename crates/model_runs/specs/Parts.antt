-- Which paths a part of a file asks.
use Rattle.std.specs.Prelude.{ℕ, ◌-◌, List, Option, vec_items}
use Rattle.std.specs.List.{slice_get, filter_map, range_with_len}
use Rattle.std.specs.Option.{option_map, option_and_then, option_flatten}
use Rattle.std.specs.declared.ops.Range.{Range}
use Rattle.path_resolution.specs.declared.question.Question.{Question}
use Rattle.path_text.specs.declared.mod_path.ModPath.{ModPath}
use Rattle.cuts.specs.declared.asked.Ask.{Ask}
use Rattle.firmware.specs.declared.pile.Part.{Part}
use Rattle.firmware.specs.declared.survey.Survey.{Survey}
use Rattle.firmware.specs.Models.{began, ended, paths_between}

-- what is asked: a path's number among those of the file, who asks, and the path
abbrev pub Asking : Type 0
Asking = ℕ × Question × ModPath

abbrev pub asking : Ask → Asking
asking a = (a.number, a.question, a.path.now)

-- who asks the path with that number, if anyone does
abbrev pub asker : Survey → ℕ → Option Question
asker s n = option_flatten (slice_get (vec_items s.firmware.now.questions) n)

-- a path is asked where someone asks it
abbrev pub asked_at : Survey → ℕ → Option Asking
asked_at s n = option_and_then (λ q. option_map (λ p. (n, q, p)) (slice_get (vec_items s.paths) n)) (asker s n)

-- the numbers from the first one on and before the last one
abbrev pub numbers : Range ℕ → List ℕ
numbers r = range_with_len r.start (r.end - r.start)

-- the paths of a part that are asked, in their order
abbrev pub asked_in : Survey → Part → List Asking
asked_in s part = filter_map (asked_at s) (numbers (paths_between (began s.firmware.now part) (ended s.firmware.now part)))
