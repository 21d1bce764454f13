use Rattle.std.proofs.Common.{◌≡◌, vec_items, refl, rules, ap, ◌∙◌, sym, subst}
use Rattle.std.specs.List.{All}
use Rattle.hir_def.specs.Faults.{IfRefused}
use Rattle.file_reader.specs.Reading.{Reads, RefusesFile}
use Rattle.model_reports.specs.Files.{IsRead, AreNotTaken, files_of}
use Rattle.model_reports.proofs.Taken.{one_read, read_again, not_read, of_more, told_on}
use Rattle.model_reports.proofs.files.read_all.Goals as goal

pub loop-file-preserved : goal.loop-file-preserved
loop-file-preserved c =
    let text : c.as_slice.result.now ≡ vec_items c.file-item.result.text = search rules in
    let n = c.in_ok-push-in-Ok.ensures.items in
    record {
      files = one_read c.args.files.now c.loop-file.file-index c.file-item.result c.loop-file-test.true c.file-item.is _ _ _ n refl c.loop-file.invariant.files;
      read = read_again _ _ _ n c.loop-file.invariant.read (subst (λ t. Reads t c.in-Ok.firmware) text c.in-Ok.ensures.read);
    }

pub returns-in_err-survey_all-in-Err-clause-refused : goal.returns-in_err-survey_all-in-Err-clause-refused
returns-in_err-survey_all-in-Err-clause-refused c =
    let fs = c.args.files.now in
    let read : c.as_slice-in-Err.result.now ≡ vec_items c.loop-file.read = search rules in
    told_on (AreNotTaken fs) c.from_residual-in_err-survey_all-in-Err.result c.in_err-survey_all-in-Err.field-0.0 (search rules)
    (of_more fs (files_of c.as_slice-in-Err.result.now) c.loop-file.file-index (ap files_of read ∙ c.loop-file.invariant.files) c.in_err-survey_all-in-Err.field-0.0 c.in_err-survey_all-in-Err.ensures.refused)

pub returns-in-Err-clause-refused : goal.returns-in-Err-clause-refused
returns-in-Err-clause-refused c =
    let text : c.as_slice.result.now ≡ vec_items c.file-item.result.text = search rules in
    let read : c.as_slice-in-Err.result.now ≡ vec_items c.loop-file.read = search rules in
    not_read c.args.files.now c.loop-file.file-index c.file-item.result c.loop-file-test.true c.file-item.is c.as_slice-in-Err.result.now (ap files_of read ∙ c.loop-file.invariant.files)
    (subst (All IsRead) (sym read) c.loop-file.invariant.read) (vec_items c.in_ok-survey_all-in-Err.field-0) c.in_ok-survey_all-in-Err.ensures.taken c.in-Err.failure
    (subst (λ t. IfRefused (RefusesFile t) c.in-Err.failure) text c.in-Err.ensures.refused) c.error_of.result c.error_of.ensures
