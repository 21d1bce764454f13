-- Verdicts: their text, and tests of one.
use Rattle.std.specs.Prelude.{ℕ, Bool, true, false, List, codes, Option, Some, None}
use Rattle.std.specs.Borrow.{Bor}
use Rattle.replays.specs.declared.verdict.Verdict.{Verdict}
use Rattle.replays.specs.declared.verdict.Verdict.TheVariants.{Alike, Named, NotAsWritten}

abbrev pub verdict_text : Verdict → List ℕ
verdict_text Alike = codes "alike"
verdict_text (Named name) = name.now
verdict_text NotAsWritten = codes "not as written"

abbrev pub is_alike : Verdict → Bool
is_alike Alike = true
is_alike _ = false

abbrev pub is_wrong : Verdict → Bool
is_wrong NotAsWritten = true
is_wrong _ = false

abbrev pub name_of : Verdict → Option (Bor (List ℕ))
name_of (Named name) = Some name
name_of _ = None
