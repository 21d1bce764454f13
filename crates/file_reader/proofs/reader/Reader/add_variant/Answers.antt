use Rattle.std.proofs.Common.{rules, length, refl}
use Rattle.file_reader.specs.Adding.{stated}
use Rattle.file_reader.specs.Told.{table, told_by}
use Rattle.firmware.specs.declared.definition.Standing.TheVariants.{Variant}
use Rattle.item_scope.specs.declared.index_data.EnumVariant.{EnumVariant}
use Rattle.statements.specs.Kinds.{has_constructor}
use Rattle.statements.specs.declared.kinds.ItemKind.TheVariants as kind
use Rattle.file_reader.proofs.Steps.{still_listed, variant_told}
use Rattle.file_reader.proofs.reader.Reader.add_variant.Goals as goal

pub returns-clause-added : goal.returns-clause-added
returns-clause-added c =
    let old = told_by c.args.self.now in
    let new = told_by c.declare.new.self in
    let outer = c.in_ok-outer.outer in
    let own = c.in_ok-outer.own in
    let of = c.in_ok-of.of in
    let name = c.in_ok-name.name in
    let row : EnumVariant = record { variant = record { 0 = length old.definitions.others }; has_constructor = has_constructor c.args.shape } in
    let all = variant_told old (kind.Variant c.args.shape) (record { of = of; name = name.number }) c.args.word (told_by c.list_name.new.self)
    (told_by c.define.new.self) new _ _ _ (stated outer own (Variant of)) (table c.tell.new.told) _ row
    c.list_name.ensures.told c.in_ok-variant.ensures.told (search rules) c.in_ok-tell.ensures (search rules) c.declare.ensures.told in (
      outer,
      own,
      of,
      name.number,
      row,
      search rules,
      search rules,
      search rules,
      still_listed old (told_by c.list_name.new.self) new own.text.now name.number (search rules) c.in_ok-name.ensures.lists,
      search rules,
      refl,
      search rules,
      all,
    )
