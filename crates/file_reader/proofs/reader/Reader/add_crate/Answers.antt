use Rattle.std.proofs.Common.{rules, [], refl, subst}
use Rattle.file_reader.specs.Definitions.{Kept}
use Rattle.file_reader.specs.Told.{told_by}
use Rattle.firmware.specs.declared.definition.Standing.TheVariants.{Apart}
use Rattle.path_text.specs.Lists.{Grows}
use Rattle.file_reader.proofs.Steps.{crate_told}
use Rattle.file_reader.proofs.reader.Reader.add_crate.Goals as goal

pub returns-clause-added : goal.returns-clause-added
returns-clause-added c =
    let old = told_by c.args.self.now in
    let word = c.args.word in
    let listed = c.in_ok-name.ensures.lists in
    let own : Kept = record { within = []; name = word.text.now; line = word.line; standing = Apart } in (
      c.in_ok-root.root,
      _,
      record { 0 = c.in_ok-row_number.field-0 },
      listed.0,
      subst (Grows old.names word.text.now) (search rules) listed.1,
      search rules,
      search rules,
      refl,
      search rules,
      crate_told old _ word _ _ own _ (told_by c.list_name.new.self) (told_by c.add_module.new.self) _ (record { root = c.in_ok-root.root; edition = c.args.edition })
          c.list_name.ensures.told (search rules) c.in_ok-root.ensures.added.1 (search rules),
    )
