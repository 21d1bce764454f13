use Rattle.std.proofs.Common.{◌≡◌}
use Rattle.path_text.specs.Language.{stop}
use Rattle.path_text.specs.Left.{segments_left}
use Rattle.path_text.specs.Texts.{stop_of}
use Rattle.path_text.proofs.path_text.check_path_text.Given as goal

abbrev pub invariant-loop-segment : goal.invariant-loop-segment
invariant-loop-segment l = stop l.before (segments_left l.segment-iterator) ≡ stop_of l.text
