-- In each arm nothing that may follow its first word is there, where what reads it refuses.
use Rattle.std.proofs.Common.{codes, refl, sym, subst}
use Rattle.statements.proofs.FirstWords.{Follows, refuse, bare, import_follows, import_has_bytes, no_first_word}
use Rattle.statements.proofs.Texts.{its_text, its_word}
use Rattle.statements.proofs.statement.Statement.after.Goals as goal
use Rattle.statements.specs.Spelling.{MaySay, kind_word, import_word}

pub returns-in_err-read_optional-in-module-clause-refused :
    goal.returns-in_err-read_optional-in-module-clause-refused
unfolding Follows
returns-in_err-read_optional-in-module-clause-refused c =
    let verb = its_word _ _ c.text_or_nothing-text.ensures (codes "module") refl c.in-module.is in
    let none = c.in_err-read_optional-in-module.ensures.refused in
    refuse _ c.args.words.now.words.rest.now _ (codes "module") verb
    (λ f. none f.1 (subst (MaySay f.1) (sym c.expect-in-module.ensures.rest) f.3))

pub returns-in_err-read_site-in-item-clause-refused : goal.returns-in_err-read_site-in-item-clause-refused
unfolding Follows
returns-in_err-read_site-in-item-clause-refused c =
    let verb = its_word _ _ c.text_or_nothing-text.ensures (codes "item") refl c.in-item.is in
    let none = c.in_err-read_site-in-item.ensures.refused in
    refuse _ c.args.words.now.words.rest.now _ (codes "item") verb (λ f. none f.0 f.1)

pub returns-in_err-site-in-struct-clause-refused : goal.returns-in_err-site-in-struct-clause-refused
unfolding Follows
returns-in_err-site-in-struct-clause-refused c =
    let verb = its_word _ _ c.text_or_nothing-text.ensures (codes "struct") refl c.in-struct.is in
    let none = c.in_err-site-in-struct.ensures.refused in
    refuse _ c.args.words.now.words.rest.now _ (codes "struct") verb (λ f. none f.0 f.3)

pub returns-in_err-site-in-macro-clause-refused : goal.returns-in_err-site-in-macro-clause-refused
unfolding Follows
returns-in_err-site-in-macro-clause-refused c =
    let verb = its_word _ _ c.text_or_nothing-text.ensures (codes "macro") refl c.in-macro.is in
    let none = c.in_err-site-in-macro.ensures.refused in
    refuse _ c.args.words.now.words.rest.now _ (codes "macro") verb (λ f. none f.0 f.3)

pub returns-in_err-name-in-text-clause-refused : goal.returns-in_err-name-in-text-clause-refused
unfolding Follows
returns-in_err-name-in-text-clause-refused c =
    let verb = its_word _ _ c.text_or_nothing-text.ensures (codes "legacy-macro") refl c.in-text.is in
    let none = c.in_err-name-in-text.ensures.refused in
    refuse _ c.args.words.now.words.rest.now _ (codes "legacy-macro") verb (λ f. none f.0 f.1 f.2 f.3)

pub returns-in_err-name-in-text-2-clause-refused : goal.returns-in_err-name-in-text-2-clause-refused
unfolding Follows
returns-in_err-name-in-text-2-clause-refused c =
    let verb = its_word _ _ c.text_or_nothing-text.ensures (codes "extern-prelude") refl c.in-text-2.is in
    let none = c.in_err-name-in-text-2.ensures.refused in
    refuse _ c.args.words.now.words.rest.now _ (codes "extern-prelude") verb (λ f. none f.0 f.1 f.2 f.3)

pub returns-in_err-name-in-text-3-clause-refused : goal.returns-in_err-name-in-text-3-clause-refused
unfolding Follows
returns-in_err-name-in-text-3-clause-refused c =
    let verb = its_word _ _ c.text_or_nothing-text.ensures (codes "macro-use") refl c.in-text-3.is in
    let none = c.in_err-name-in-text-3.ensures.refused in
    refuse _ c.args.words.now.words.rest.now _ (codes "macro-use") verb (λ f. none f.0 f.1 f.2 f.3)

pub returns-in_err-name-in-model-clause-refused : goal.returns-in_err-name-in-model-clause-refused
unfolding Follows
returns-in_err-name-in-model-clause-refused c =
    let verb = its_word _ _ c.text_or_nothing-text.ensures (codes "model") refl c.in-model.is in
    let none = c.in_err-name-in-model.ensures.refused in
    refuse _ c.args.words.now.words.rest.now _ (codes "model") verb (λ f. none f.0 f.1 f.2)

pub returns-in_ok-name-in-text-2-clause-spelt : goal.returns-in_ok-name-in-text-2-clause-spelt
returns-in_ok-name-in-text-2-clause-spelt c =
    let verb = its_word _ _ c.text_or_nothing-text.ensures (codes "extern-prelude") refl c.in-text-2.is in
    (verb, c.in_ok-name-in-text-2.ensures.meaning)

pub returns-in_ok-name-in-text-3-clause-spelt : goal.returns-in_ok-name-in-text-3-clause-spelt
returns-in_ok-name-in-text-3-clause-spelt c =
    let verb = its_word _ _ c.text_or_nothing-text.ensures (codes "macro-use") refl c.in-text-3.is in
    (verb, c.in_ok-name-in-text-3.ensures.meaning)

pub returns-in_ok-name-in-text-clause-spelt : goal.returns-in_ok-name-in-text-clause-spelt
returns-in_ok-name-in-text-clause-spelt c =
    let verb = its_word _ _ c.text_or_nothing-text.ensures (codes "legacy-macro") refl c.in-text.is in
    (verb, c.in_ok-name-in-text.ensures.legacy)

pub returns-in_ok-name-in-model-clause-spelt : goal.returns-in_ok-name-in-model-clause-spelt
returns-in_ok-name-in-model-clause-spelt c =
    let verb = its_word _ _ c.text_or_nothing-text.ensures (codes "model") refl c.in-model.is in
    (verb, c.in_ok-name-in-model.ensures.model)

pub returns-in-Some-clause-spelt : goal.returns-in-Some-clause-spelt
returns-in-Some-clause-spelt c =
    let told = c.in-Some.ensures.kind in
    let alone = bare c.in-Some.kind told.1 _ in
    (its_word _ _ c.text_or_nothing-text.ensures _ alone.some told.0, c.in_ok-read_site.ensures.site, alone.rest)

pub returns-in_err-read_site-clause-refused : goal.returns-in_err-read_site-clause-refused
returns-in_err-read_site-clause-refused c =
    let told = c.in-Some.ensures.kind in
    let text = c.args.words.now.words.rest.now in
    let alone = bare c.in-Some.kind told.1 text in
    let verb = its_word _ _ c.text_or_nothing-text.ensures _ alone.some told.0 in
    let none = c.in_err-read_site.ensures.refused in
    refuse _ text _ (kind_word c.in-Some.kind) verb (λ f. none (alone.site f).0 (alone.site f).1)

pub returns-in_err-full-clause-refused : goal.returns-in_err-full-clause-refused
returns-in_err-full-clause-refused c =
    let text = c.args.words.now.words.rest.now in
    let bringing = c.in-Some-bringing_of_word.bringing in
    let told = c.in-Some-bringing_of_word.ensures.bringing in
    let verb = its_word _ _ c.text_or_nothing-text.ensures _ (import_has_bytes bringing) told in
    let follow = import_follows bringing text in
    let none = c.in_err-full.ensures.refused in
    refuse _ text _ (import_word bringing) verb (λ f. none (follow f).0 (follow f).1 (follow f).2)

pub returns-in_default-text-clause-refused : goal.returns-in_default-text-clause-refused
returns-in_default-text-clause-refused c =
    let n = c.in_default-text in
    let its = its_text _ _ c.text_or_nothing-text.ensures in
    no_first_word c.text_or_nothing-text.result.now _ c.args.words.now.words.rest.now its
    c.in_default.ensures.none c.in_default-bringing_of_word.ensures.none
    n.not-crate n.not-module n.not-block n.not-item n.not-struct n.not-macro n.not-variant n.not-text
    n.not-text-2 n.not-text-3 n.not-prelude n.not-path n.not-model
