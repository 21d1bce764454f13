-- Why a file is not taken, by what came of its paths and of its tables.
use Rattle.std.proofs.Common.{inl, inr, vec_items, Err, List}
use Rattle.std.specs.Global.{Vec}
use Rattle.hir_def.specs.Faults.{IfRefused, OnMemory}
use Rattle.hir_def.specs.declared.fault.Failure.{Failure}
use Rattle.hir_def.specs.declared.fault.Failure.TheVariants.{Memory, Refused}
use Rattle.path_text.specs.declared.mod_path.ModPath.{ModPath}
use Rattle.firmware.specs.declared.file.Firmware.{Firmware}
use Rattle.troubles.specs.declared.trouble.Trouble.{Trouble}
use Rattle.firmware.specs.Paths.{AllRead, FirstBad, WantsAt}
use Rattle.firmware.specs.Surveys.{Denies, WhyNot}

pub bad_path : (f : Firmware) (e : Failure Trouble) → IfRefused (FirstBad f.list (vec_items f.paths)) e → OnMemory {T = Vec ModPath} (Err e) (WantsAt f.list (vec_items f.paths)) → WhyNot f e
bad_path f (Memory e) h m = inl m
bad_path f (Refused t) h m = inl h

pub bad_tables : (f : Firmware) (paths : List ModPath) (e : Failure Trouble) → AllRead f.list (vec_items f.paths) paths → Denies f e → WhyNot f e
bad_tables f paths (Memory e) r d = inr (paths, r)
bad_tables f paths (Refused t) r d = inr ((paths, r), d)
