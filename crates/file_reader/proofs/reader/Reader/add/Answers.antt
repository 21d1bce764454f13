use Rattle.std.proofs.Common.{◌≡◌, Option, Some, None, subst, sym}
use Rattle.file_reader.specs.Adding.{Adds}
use Rattle.file_reader.specs.Refusals.{NoOutcome, OnRefused}
use Rattle.file_reader.specs.Told.{told_by}
use Rattle.source_text.specs.declared.words.Word.{Word}
use Rattle.statements.specs.declared.statement.Statement.TheVariants as statement
use Rattle.file_reader.proofs.reader.Reader.add.Goals as goal

pub returns-in-Crate-clause-added : goal.returns-in-Crate-clause-added
returns-in-Crate-clause-added c = rw c.in-Crate.is c.add_crate.ensures.added

pub returns-in-Defined-clause-added : goal.returns-in-Defined-clause-added
returns-in-Defined-clause-added c = rw c.in-Defined.is c.add_definition.ensures.added

pub returns-in-Use-clause-added : goal.returns-in-Use-clause-added
returns-in-Use-clause-added c = rw c.in-Use.is c.add_use.ensures.added

pub returns-in-Module-clause-added : goal.returns-in-Module-clause-added
returns-in-Module-clause-added c = rw c.in-Module.is c.add_inner.ensures.added

pub returns-in-Module-clause-refused : goal.returns-in-Module-clause-refused
returns-in-Module-clause-refused c = rw c.in-Module.is c.add_inner.ensures.refused

pub returns-in-Variant-clause-added : goal.returns-in-Variant-clause-added
returns-in-Variant-clause-added c = rw c.in-Variant.is c.add_variant.ensures.added

pub returns-in-Variant-clause-refused : goal.returns-in-Variant-clause-refused
returns-in-Variant-clause-refused c = rw c.in-Variant.is c.add_variant.ensures.refused

pub returns-in-Crate-clause-refused : goal.returns-in-Crate-clause-refused
returns-in-Crate-clause-refused c = rw c.in-Crate.is c.add_crate.ensures.refused

pub returns-in-Block-clause-refused : goal.returns-in-Block-clause-refused
returns-in-Block-clause-refused c = rw c.in-Block.is c.add_block.ensures.refused

pub returns-in-Defined-clause-refused : goal.returns-in-Defined-clause-refused
returns-in-Defined-clause-refused c = rw c.in-Defined.is c.add_definition.ensures.refused

pub returns-in-LegacyMacro-default-default-None-clause-refused :
    goal.returns-in-LegacyMacro-default-default-None-clause-refused
returns-in-LegacyMacro-default-default-None-clause-refused c =
    let told = c.in-LegacyMacro-default-default-None in
    let meant : told.field-2 ≡ None = rw told.is at told.field-2-is in
    rw told.is (subst
    (λ (o : Option Word). OnRefused c.add_legacy.result (NoOutcome (Adds (statement.LegacyMacro told.name told.«module» o) (told_by c.args.self.now))))
    (sym meant) c.add_legacy.ensures.refused)

pub returns-in-LegacyMacro-default-default-Some-clause-refused :
    goal.returns-in-LegacyMacro-default-default-Some-clause-refused
returns-in-LegacyMacro-default-default-Some-clause-refused c =
    let told = c.in-LegacyMacro-default-default-Some in
    let meant : told.field-2 ≡ Some told.meant = rw told.is at told.field-2-is in
    rw told.is (subst
    (λ (o : Option Word). OnRefused c.add_legacy_of.result (NoOutcome (Adds (statement.LegacyMacro told.name told.«module» o) (told_by c.args.self.now))))
    (sym meant) c.add_legacy_of.ensures.refused)

pub returns-in-ExternPrelude-clause-refused : goal.returns-in-ExternPrelude-clause-refused
returns-in-ExternPrelude-clause-refused c = rw c.in-ExternPrelude.is c.add_extern_prelude.ensures.refused

pub returns-in-MacroUse-clause-refused : goal.returns-in-MacroUse-clause-refused
returns-in-MacroUse-clause-refused c = rw c.in-MacroUse.is c.add_macro_use.ensures.refused

pub returns-in-Prelude-clause-refused : goal.returns-in-Prelude-clause-refused
returns-in-Prelude-clause-refused c = rw c.in-Prelude.is c.add_prelude.ensures.refused

pub returns-in-Path-clause-refused : goal.returns-in-Path-clause-refused
returns-in-Path-clause-refused c = rw c.in-Path.is c.add_path.ensures.refused

pub returns-in-Model-clause-refused : goal.returns-in-Model-clause-refused
returns-in-Model-clause-refused c = rw c.in-Model.is c.add_model.ensures.refused

pub returns-in-Use-clause-refused : goal.returns-in-Use-clause-refused
returns-in-Use-clause-refused c = rw c.in-Use.is c.add_use.ensures.refused
