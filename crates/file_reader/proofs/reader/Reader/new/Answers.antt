use Rattle.std.proofs.Common.{rules}
use Rattle.file_reader.proofs.reader.Reader.new.Goals as goal

pub returns : goal.returns
returns c = (search rules, search rules, search rules, c.in_ok-nothing.ensures _ _ _)
