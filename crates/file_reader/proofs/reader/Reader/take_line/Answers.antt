use Rattle.std.proofs.Common.{◌≢◌, rules, ap, length, Err, refl, subst, Some, None, inl, inr, tests}
use Rattle.std.proofs.lemmas.List.{nil_from_length}
use Rattle.std.proofs.lemmas.Result.{on_ok_weaker}
use Rattle.file_reader.specs.Told.{told_by}
use Rattle.file_reader.specs.Reading.{IsReadAt, MayFollow, ReadsLine, RefusesLine}
use Rattle.troubles.specs.declared.trouble.Trouble.{Trouble}
use Rattle.file_reader.proofs.Refused.{on_refused, then_refused, may_not_follow, read_at}
use Rattle.file_reader.proofs.reader.Reader.take_line.Goals as goal
use Rattle.file_reader.proofs.reader.Reader.take_line.Goals.{else-not-is_empty-via-then-not-is_empty+else-not-stands_below_models, else-not-is_empty-via-else-not-is_empty}

pub returns-in_default-clause-read : goal.returns-in_default-clause-read
unfolding ReadsLine
returns-in_default-clause-read c = (_, None, c.of.ensures.code, subst (IsReadAt c.args.number c.of.result.words.rest.now) c.in_default.is (read_at c.of.result.words.line c.args.number c.of.result.words.rest.now c.in_ok-verb.field-0 c.of.result.words.column c.of.ensures.line c.of.ensures.column c.in_ok-verb.ensures.read c.in_ok-verb.ensures.line c.in_ok-verb.ensures.columns), refl)

pub returns-clause-read : goal.returns-clause-read
unfolding ReadsLine
returns-clause-read c =
    let s = c.in-Some.statement in
    let code = c.of.result.words.rest.now in
    let may : MayFollow s (told_by c.args.self.now) = elim c.else-not-is_empty.branch [
      | else-not-is_empty-via-then-not-is_empty+else-not-stands_below_models w ↦ inr (search (rules, tests))
      | else-not-is_empty-via-else-not-is_empty w ↦ inl (nil_from_length _ (search (rules, tests)))
    ] in
    on_ok_weaker c.add.result (λ a. (code, Some (c.in-Some.verb, s), c.of.ensures.code, subst (IsReadAt c.args.number code) c.in-Some.is (read_at c.of.result.words.line c.args.number c.of.result.words.rest.now c.in_ok-verb.field-0 c.of.result.words.column c.of.ensures.line c.of.ensures.column c.in_ok-verb.ensures.read c.in_ok-verb.ensures.line c.in_ok-verb.ensures.columns), (may, a))) c.add.ensures.added

pub returns-in_err-verb-clause-refused : goal.returns-in_err-verb-clause-refused
unfolding RefusesLine
returns-in_err-verb-clause-refused c =
    let why : RefusesLine c.args.number c.args.line.now (told_by c.args.self.now) = (c.of.result.words.rest.now, c.of.ensures.code, inl c.in_err-verb.ensures.refused) in
    on_refused _ why

pub returns-then-not-stands_below_models-clause-refused : goal.returns-then-not-stands_below_models-clause-refused
unfolding RefusesLine
returns-then-not-stands_below_models-clause-refused c =
    let s = c.in-Some.statement in
    let old = told_by c.args.self.now in
    let code = c.of.result.words.rest.now in
    let some : length old.models ≢ 0 = search (rules, tests) in
    let why : RefusesLine c.args.number c.args.line.now old = (
      code,
      c.of.ensures.code,
      inr (
        Some (c.in-Some.verb, s),
        subst (IsReadAt c.args.number code) c.in-Some.is (read_at c.of.result.words.line c.args.number c.of.result.words.rest.now c.in_ok-verb.field-0 c.of.result.words.column c.of.ensures.line c.of.ensures.column c.in_ok-verb.ensures.read c.in_ok-verb.ensures.line c.in_ok-verb.ensures.columns),
        (λ new a. may_not_follow s old (λ e. some (ap length e)) (cc) a.0),
      ),
    ) in
    on_refused {T = Unit {0}} {R = Trouble} (Err c.from.result) why

pub returns-clause-refused : goal.returns-clause-refused
unfolding RefusesLine
returns-clause-refused c =
    let s = c.in-Some.statement in
    let code = c.of.result.words.rest.now in
    then_refused c.add.result
    (λ none. (code, c.of.ensures.code, inr (Some (c.in-Some.verb, s), subst (IsReadAt c.args.number code) c.in-Some.is (read_at c.of.result.words.line c.args.number c.of.result.words.rest.now c.in_ok-verb.field-0 c.of.result.words.column c.of.ensures.line c.of.ensures.column c.in_ok-verb.ensures.read c.in_ok-verb.ensures.line c.in_ok-verb.ensures.columns), (λ new a. none new a.1))))
    c.add.ensures.refused

pub returns-clause-line : goal.returns-clause-line
returns-clause-line c =
    let code = c.of.result.words.rest.now in
    let read = read_at c.of.result.words.line c.args.number code c.in_ok-verb.field-0 c.of.result.words.column c.of.ensures.line c.of.ensures.column c.in_ok-verb.ensures.read c.in_ok-verb.ensures.line c.in_ok-verb.ensures.columns in
    c.add.ensures.line c.args.number (subst (IsReadAt c.args.number code) c.in-Some.is read).1.1
