use Rattle.std.proofs.Common.{◌≡◌, ◌+◌, ◌≤◌, length, fold}
use Rattle.path_text.specs.Language.{stop}
use Rattle.path_text.specs.Left.{segments_left}
use Rattle.path_text.specs.Segments.{segments}
use Rattle.path_text.specs.Gathered.{nothing, with_segment}
use Rattle.path_text.specs.Texts.{stop_of}
use Rattle.path_text.proofs.read.gather.Given as goal

abbrev pub invariant-loop-segment : goal.invariant-loop-segment
invariant-loop-segment l = record {
  language : stop l.before (segments_left l.segment-iterator) ≡ stop_of l.text;
  told : fold (with_segment l.list) l.gathered (segments_left l.segment-iterator) ≡ fold (with_segment l.list) nothing (segments 0 l.text);
  names : l.gathered.names + length (segments_left l.segment-iterator) ≤ length l.text + 1;
  level : l.gathered.level + length (segments_left l.segment-iterator) ≤ length l.text + 1;
}
