use Rattle.std.proofs.Common.{rules, refl, subst}
use Rattle.file_reader.specs.Adding.{stated}
use Rattle.file_reader.specs.Told.{told_by}
use Rattle.firmware.specs.declared.definition.Standing.TheVariants.{Apart}
use Rattle.path_text.specs.Lists.{Grows}
use Rattle.file_reader.proofs.Steps.{block_told}
use Rattle.file_reader.proofs.reader.Reader.add_block.Goals as goal

pub returns-clause-added : goal.returns-clause-added
returns-clause-added c =
    let old = told_by c.args.self.now in
    let outer = c.in_ok-outer.outer in
    let own = c.in_ok-outer.own in
    let listed = c.in_ok-name.ensures.lists in (
      outer,
      own,
      c.in_ok-outside.outside,
      c.in_ok-root.root,
      _,
      record { 0 = c.in_ok-row_number.field-0 },
      (search rules, search rules, search rules),
      listed.0,
      subst (Grows old.names own.text.now) (search rules) listed.1,
      search rules,
      search rules,
      refl,
      search rules,
      block_told old _ c.args.word _ _ (stated outer own Apart) _ (told_by c.list_name.new.self) (told_by c.add_module.new.self) _
          (record { root = c.in_ok-root.root; outside = c.in_ok-outside.outside.id }) c.list_name.ensures.told (search rules) c.in_ok-root.ensures.added.1 (search rules),
    )
