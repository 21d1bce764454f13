use Rattle.std.proofs.Common.{◌≡◌, ℕ, List, ◌++◌, length, encode_utf8_all}
use Rattle.std.specs.Fmt.{HasWritten, IsPlainFormatter}
use Rattle.source_text.specs.Cells.{margin}
use Rattle.source_text.proofs.excerpt.MarginDisplay.fmt.Given as goal

abbrev pub decreases-loop-cell : goal.decreases-loop-cell
decreases-loop-cell g l = length l.rest

-- what is written so far, and what is left
abbrev pub invariant-loop-cell : goal.invariant-loop-cell
invariant-loop-cell g l =
    IsPlainFormatter l.initial.f → (done : List ℕ) × (HasWritten g.W.Write.write_str_gives l.initial.f done l.f × (done ++ encode_utf8_all (margin l.rest) ≡ encode_utf8_all (margin l.initial.rest)))
