use Rattle.std.proofs.Common.{vec_items, rules}
use Rattle.std.specs.List.{All}
use Rattle.model_reports.specs.Files.{AreNotTaken, FirstRefused, IfNotTaken, IsTaken}
use Rattle.model_reports.proofs.Taken.{all_taken, first_told, not_begun, once, told_on, why_not}
use Rattle.model_reports.proofs.files.report_files.Goals as goal

pub returns-in_err-read-clause-taken : goal.returns-in_err-read-clause-taken
returns-in_err-read-clause-taken g c =
    let fs = c.args.files.now in
    not_begun fs (All IsTaken fs) c.from_residual.result c.in_err-read.field-0.0 (search rules) c.in_err-read.ensures.refused

pub returns-in_err-read-clause-refused : goal.returns-in_err-read-clause-refused
returns-in_err-read-clause-refused g c =
    let fs = c.args.files.now in
    let why = c.in_err-read.field-0.0 in
    told_on (IfNotTaken (FirstRefused fs)) c.from_residual.result why (search rules) (first_told fs why c.in_err-read.ensures.refused)

pub returns-in_err-surveys-clause-taken : goal.returns-in_err-surveys-clause-taken
returns-in_err-surveys-clause-taken g c =
    let fs = c.args.files.now in
    let why = c.in_err-surveys.field-0.0 in
    let not_taken : AreNotTaken fs why = why_not (vec_items c.in_ok-read.read) c.as_slice.result.now fs why (search rules) c.in_ok-read.ensures.each c.in_err-surveys.ensures.refused in
    not_begun fs (All IsTaken fs) c.from_residual-in_err-surveys.result why (search rules) not_taken

pub returns-in_err-surveys-clause-refused : goal.returns-in_err-surveys-clause-refused
returns-in_err-surveys-clause-refused g c =
    let fs = c.args.files.now in
    let why = c.in_err-surveys.field-0.0 in
    let not_taken : AreNotTaken fs why = why_not (vec_items c.in_ok-read.read) c.as_slice.result.now fs why (search rules) c.in_ok-read.ensures.each c.in_err-surveys.ensures.refused in
    told_on (IfNotTaken (FirstRefused fs)) c.from_residual-in_err-surveys.result why (search rules) (first_told fs why not_taken)

pub returns-in_err-write_all-clause-taken : goal.returns-in_err-write_all-clause-taken
returns-in_err-write_all-clause-taken g c =
    once _ _ (all_taken (vec_items c.in_ok-read.read) c.as_slice.result.now c.args.files.now (vec_items c.in_ok-surveys.surveys) (search rules) c.in_ok-read.ensures.each c.in_ok-read.ensures.read c.in_ok-surveys.ensures.taken)

pub returns-clause-taken : goal.returns-clause-taken
returns-clause-taken g c =
    all_taken (vec_items c.in_ok-read.read) c.as_slice.result.now c.args.files.now (vec_items c.in_ok-surveys.surveys) (search rules) c.in_ok-read.ensures.each c.in_ok-read.ensures.read c.in_ok-surveys.ensures.taken
