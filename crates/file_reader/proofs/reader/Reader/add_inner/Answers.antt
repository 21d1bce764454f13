use Rattle.std.proofs.Common.{rules, refl, None}
use Rattle.file_reader.specs.Adding.{delivering, stated}
use Rattle.file_reader.specs.Told.{told_by}
use Rattle.firmware.specs.declared.definition.Standing.TheVariants.{Place}
use Rattle.file_reader.proofs.Refused.{told_at}
use Rattle.file_reader.proofs.Steps.{inner_told, still_listed}
use Rattle.file_reader.proofs.reader.Reader.add_inner.Goals as goal

pub returns-clause-added : goal.returns-clause-added
returns-clause-added c =
    let old = told_by c.args.self.now in
    let new = told_by c.deliver.new.self in
    let outer = c.in_ok-outer.outer in
    let own = c.in_ok-outer.own in
    let name = c.in_ok-name.name in
    let entries = c.types-entries.result in
    let all = inner_told old _ c.args.word _ _ (stated outer own Place) _ (told_by c.list_name.new.self) (told_by c.add_module.new.self)
    (told_by c.declare.new.self) new _ _ (delivering c.in_ok-parent.parent.id own name.number outer entries None)
    c.list_name.ensures.told (search rules) c.in_ok-id.ensures.added.1 c.declare.ensures.told c.in_ok-deliver.ensures (search rules) in (
      outer,
      own,
      c.in_ok-parent.parent,
      c.in_ok-vis.vis,
      c.in_ok-id.id,
      _,
      name.number,
      entries,
      (search rules, search rules, search rules),
      still_listed old (told_by c.list_name.new.self) new own.text.now name.number (search rules) c.in_ok-name.ensures.lists,
      search rules,
      refl,
      search rules,
      search rules,
      search rules,
      all,
    )

-- The visibility names no module, in the line of the statement.
pub returns-in_err-vis-clause-line : goal.returns-in_err-vis-clause-line
returns-in_err-vis-clause-line c h =
    told_at c.from_residual-in_err-vis.result c.in_err-vis.field-0.0 c.args.word.line (search rules) (c.in_err-vis.ensures.line c.args.word.line h)
