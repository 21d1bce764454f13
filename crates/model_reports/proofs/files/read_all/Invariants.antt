use Rattle.std.proofs.Common.{◌≡◌, take, vec_items}
use Rattle.std.specs.List.{All}
use Rattle.model_reports.specs.Files.{IsRead, files_of}
use Rattle.model_reports.proofs.files.read_all.Given as goal

-- the files so far are read
abbrev pub invariant-loop-file : goal.invariant-loop-file
invariant-loop-file l = record {
  files : files_of (vec_items l.read) ≡ take l.file-index l.files;
  read : All IsRead (vec_items l.read);
}
