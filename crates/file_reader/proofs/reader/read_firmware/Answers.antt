use Rattle.std.proofs.Common.{rules, tests, ℕ, List, ◌≡◌, ◌==◌, map, refl, sym, subst}
use Rattle.std.specs.Borrow.{Bor}
use Rattle.std.proofs.lemmas.Iterator.Consumers.{YieldsList-at, YieldsList-from_enumerate, YieldsList-end}
use Rattle.std.proofs.lemmas.Iterator.Splits.{YieldsList-from_slice_split}
use Rattle.std.proofs.lemmas.List.{map-append}
use Rattle.file_reader.specs.Reading.{ReadsLine, ReadsLines, Reads, RefusesFile, RefusesLine, lines_of}
use Rattle.file_reader.specs.Refusals.{IsIn}
use Rattle.file_reader.specs.Told.{told_by}
use Rattle.troubles.specs.declared.trouble.Trouble.{Trouble}
use Rattle.file_reader.proofs.Lines.{line_at, line_taken, reads_more}
use Rattle.file_reader.proofs.Refused.{passed}
use Rattle.file_reader.proofs.reader.read_firmware.Goals as goal

pub loop-i-init : goal.loop-i-init
unfolding ReadsLines
loop-i-init c = refl

pub loop-i-preserved : goal.loop-i-preserved
loop-i-preserved c =
    subst (λ ls. ReadsLines (told_by c.in_ok-reader.reader) ls (told_by c.take_line.new.self)) (sym (map-append line_at c.loop-i.yielded _))
    (reads_more _ _ _ _ _ c.loop-i.invariant (subst (λ n. ReadsLine n c.in-Some.line.now (told_by c.loop-i.reader) (told_by c.take_line.new.self)) c.line_number.ensures c.in_ok-take_line.ensures.read))

pub returns-clause-read : goal.returns-clause-read
unfolding Reads
returns-clause-read c =
    let end = YieldsList-end
    (YieldsList-at c.into_iter-i-iterator.ensures.into_iter_gives (YieldsList-from_enumerate
    (YieldsList-at c.enumerate-i-items.ensures.source
    (YieldsList-from_slice_split _ (λ b. b == 10) c.args.text.now c.split.ensures.rest c.split.ensures.done c.split.ensures.closure (λ x b q k. search (rules, tests))))
    c.enumerate-i-items.ensures.count))
    c.loop-i.yielded _ c.loop-i.yielded_by _ _ c.in-None.is c.next.ensures.steps in
    let lines : map line_at c.loop-i.yielded ≡ lines_of c.args.text.now = end.0 in
    (told_by c.in_ok-reader.reader, told_by c.loop-i.reader, c.in_ok-reader.ensures, subst (λ ls. ReadsLines (told_by c.in_ok-reader.reader) ls (told_by c.loop-i.reader)) lines c.loop-i.invariant, refl)

pub returns-in_err-take_line-clause-refused : goal.returns-in_err-take_line-clause-refused
unfolding RefusesFile
returns-in_err-take_line-clause-refused c =
    let text = c.args.text.now in
    let taken : ℕ × Bor (List ℕ) = (c.in-Some.i, c.in-Some.line) in
    let lines = line_taken (lines_of text) (YieldsList-at c.into_iter-i-iterator.ensures.into_iter_gives (YieldsList-from_enumerate
    (YieldsList-at c.enumerate-i-items.ensures.source
    (YieldsList-from_slice_split _ (λ b. b == 10) text c.split.ensures.rest c.split.ensures.done c.split.ensures.closure (λ x b q k. search (rules, tests))))
    c.enumerate-i-items.ensures.count))
    c.loop-i.yielded _ c.loop-i.yielded_by _ _ taken c.in-Some.is c.next.ensures.steps in
    let told = told_by c.loop-i.reader in
    let n = c.line_number.result in
    let why : (t : Trouble) → RefusesLine n c.in-Some.line.now told → IsIn n t → RefusesFile text t =
    λ t r i. (
      _,
      line_at taken,
      _,
      told_by c.in_ok-reader.reader,
      told,
      lines,
      c.in_ok-reader.ensures,
      c.loop-i.invariant,
      subst (λ k. RefusesLine k c.in-Some.line.now told) c.line_number.ensures r,
      subst (λ k. IsIn k t) c.line_number.ensures i,
    ) in
    passed (IsIn n) (RefusesFile text) c.take_line.result c.from_residual-in_err-take_line.result c.in_err-take_line.field-0.0
    (search rules) (search rules) why c.take_line.ensures.refused c.take_line.ensures.line
