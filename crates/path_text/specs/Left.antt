-- A segment as contracts see it, and those that are still to come.
use Rattle.std.specs.Prelude.{List}
use Rattle.path_text.specs.declared.segment.Segment.{Segment}
use Rattle.path_text.specs.declared.segment.Segments.{Segments}
use Rattle.path_text.specs.Segments.{Piece, piece, segments_from}

abbrev pub piece_of : Segment → Piece
piece_of s = piece s.text.now s.place s.next

abbrev pub segments_left : Segments → List Piece
segments_left s = segments_from s.rest s.place
