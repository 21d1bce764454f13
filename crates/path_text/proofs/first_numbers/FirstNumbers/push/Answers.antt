use Rattle.std.proofs.Common.{◌≡◌, length, take, arith}
use Rattle.std.proofs.lemmas.List.{length-take-le}
use Rattle.path_text.proofs.Gathering.{kept_more, kept_full}
use Rattle.path_text.proofs.first_numbers.FirstNumbers.push.Goals as goal

pub returns-then-self-lt-MOST_NAMES : goal.returns-then-self-lt-MOST_NAMES
returns-then-self-lt-MOST_NAMES c =
    let i = c.self.invariant in
    rw (← c.self.view_is) (kept_more c.self.inside.numbers c.self.inside.len 64 c.args.number (omega arith) c.if-self-lt-MOST_NAMES.true)

pub returns-else-self-lt-MOST_NAMES : goal.returns-else-self-lt-MOST_NAMES
returns-else-self-lt-MOST_NAMES c =
    let i = c.self.invariant in
    let e : length (take c.self.inside.len c.self.inside.numbers) ≡ c.self.inside.len = length-take-le _ _ (omega arith) in
    rw (← c.self.view_is) (kept_full (take c.self.inside.len c.self.inside.numbers) 64 c.args.number (omega arith))
