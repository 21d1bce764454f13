use Rattle.std.proofs.Common.{map}
use Rattle.file_reader.proofs.Lines.{line_at}
use Rattle.file_reader.specs.Reading.{ReadsLines}
use Rattle.file_reader.specs.Told.{told_by}
use Rattle.file_reader.proofs.reader.read_firmware.Given as goal

-- the lines so far are read
abbrev pub invariant-loop-i : goal.invariant-loop-i
invariant-loop-i l = ReadsLines (told_by l.initial.reader) (map line_at l.yielded) (told_by l.reader)
