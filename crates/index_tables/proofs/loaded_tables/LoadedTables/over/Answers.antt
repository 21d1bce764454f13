use Rattle.std.proofs.Common.{sym, ap, ◌∙◌, ◌++◌, subst}
use Rattle.std.proofs.lemmas.Bool.{leb-true}
use Rattle.std.proofs.lemmas.Result.{err_from_is_err_and}
use Rattle.hir_def.specs.declared.fault.Failure.TheVariants.{Refused}
use Rattle.hir_def.specs.declared.fault.Fault.TheVariants.{Index}
use Rattle.item_scope.specs.contracts.index_data.DefMapIdPartialEq.TheImpl.{eq-value as same_map}
use Rattle.index_tables.specs.contracts.keys.CrateNamePartialEq.TheImpl.{eq-value as same_crate_name}
use Rattle.index_tables.specs.contracts.keys.MapNamePartialEq.TheImpl.{eq-value as same_map_name}
use Rattle.index_tables.specs.contracts.keys.ModuleNamePartialEq.TheImpl.{eq-value as same_module_name}
use Rattle.index_tables.specs.contracts.keys.EnumNamePartialEq.TheImpl.{eq-value as same_enum_name}
use Rattle.index_tables.specs.Numbers.{extern_prelude_in, macro_use_in, prelude_in, legacy_in, variant_in}
use Rattle.index_tables.specs.IndexRows.{lent_rows, counts_of}
use Rattle.index_tables.specs.RowTests.{RowsPass}
use Rattle.index_tables.proofs.Turns.{few_of, as_many_is, refuses, refuses_next, at_four, at_five, at_six, fours, fives, sixes}
use Rattle.index_tables.proofs.loaded_tables.LoadedTables.over.Goals as goal

pub returns-in_err-legacy-clause-answers : goal.returns-in_err-legacy-clause-answers
returns-in_err-legacy-clause-answers g c =
    let p = err_from_is_err_and c.from_residual-in_err-legacy.result c.from_residual-in_err-legacy.ensures.1 in
    let r = lent_rows c.args.tables in
    let n = c.counts_in-counts.result in
    let e = c.counts_in-counts.ensures in
    let few = few_of _ _ _ c.in_ok-check_names.ensures in
    let at = at_four r n e few c.in_ok-extern_prelude.ensures.tested.0 c.in_ok-macro_use.ensures.tested.0 c.in_ok-preludes.ensures.tested.0 in
    rw (p.1, p.2) (refuses_next r c.in_err-legacy.field-0.0 (fours r n e few) (fives r n e few ++ sixes r n e few) _ c.in_ok-tree.ensures.answers at c.in_err-legacy.ensures.tested)

pub returns-in_err-variants-clause-answers : goal.returns-in_err-variants-clause-answers
returns-in_err-variants-clause-answers g c =
    let p = err_from_is_err_and c.from_residual-in_err-variants.result c.from_residual-in_err-variants.ensures.1 in
    let r = lent_rows c.args.tables in
    let n = c.counts_in-counts.result in
    let e = c.counts_in-counts.ensures in
    let few = few_of _ _ _ c.in_ok-check_names.ensures in
    let at = at_five r n e few c.in_ok-extern_prelude.ensures.tested.0 c.in_ok-macro_use.ensures.tested.0 c.in_ok-preludes.ensures.tested.0 c.in_ok-legacy.ensures.tested.0 in
    rw (p.1, p.2) (refuses_next r c.in_err-variants.field-0.0 (fives r n e few) (sixes r n e few) _ c.in_ok-tree.ensures.answers at c.in_err-variants.ensures.tested)

pub returns-in_err-check_styles-clause-answers : goal.returns-in_err-check_styles-clause-answers
returns-in_err-check_styles-clause-answers g c =
    let p = err_from_is_err_and c.from_residual-in_err-check_styles.result c.from_residual-in_err-check_styles.ensures.1 in
    let r = lent_rows c.args.tables in
    let n = c.counts_in-counts.result in
    let e = c.counts_in-counts.ensures in
    let few = few_of _ _ _ c.in_ok-check_names.ensures in
    let at = at_six r n e few c.in_ok-extern_prelude.ensures.tested.0 c.in_ok-macro_use.ensures.tested.0 c.in_ok-preludes.ensures.tested.0 c.in_ok-legacy.ensures.tested.0 c.in_ok-variants.ensures.tested.0 in
    rw (p.1, p.2) (refuses r (Refused (Index c.in_err-check_styles.field-0.0)) _ c.in_ok-tree.ensures.answers (λ k some. at ∙ some) c.in_err-check_styles.ensures)

pub returns-clause-answers : goal.returns-clause-answers
returns-clause-answers g c =
    let r = lent_rows c.args.tables in
    let n = c.counts_in-counts.result in
    let e = c.counts_in-counts.ensures in
    let few = few_of _ _ _ c.in_ok-check_names.ensures in
    let at = at_six r n e few c.in_ok-extern_prelude.ensures.tested.0 c.in_ok-macro_use.ensures.tested.0 c.in_ok-preludes.ensures.tested.0 c.in_ok-legacy.ensures.tested.0 c.in_ok-variants.ensures.tested.0 in
    (c.in_ok-tree.ensures.answers, at ∙ c.in_ok-check_styles.ensures)

pub invariant_of-result : goal.invariant_of-result
invariant_of-result g c =
    let r = lent_rows c.args.tables in
    let n = c.counts_in-counts.result in
    let k = c.counts_in-counts.ensures ∙ ap (λ t. counts_of (record r { tree = t })) (sym c.in_ok-tree.ensures.holds) in
    record {
      good = record {
        few_names = leb-true _ _ (few_of _ _ _ c.in_ok-check_names.ensures);
        extern_prelude = subst (λ m. RowsPass same_crate_name.it (extern_prelude_in m) c.in_ok-extern_prelude.extern_prelude.entries) k c.in_ok-extern_prelude.ensures.good;
        macro_use = subst (λ m. RowsPass same_map_name.it (macro_use_in m) c.in_ok-macro_use.macro_use.entries) k c.in_ok-macro_use.ensures.good;
        preludes = subst (λ m. RowsPass same_map.it (prelude_in m) c.in_ok-preludes.preludes.entries) k c.in_ok-preludes.ensures.good;
        legacy = subst (λ m. RowsPass same_module_name.it (legacy_in m) c.in_ok-legacy.legacy.entries) k c.in_ok-legacy.ensures.good;
        variants = subst (λ m. RowsPass same_enum_name.it (variant_in m) c.in_ok-variants.variants.entries) k c.in_ok-variants.ensures.good;
        styles = as_many_is _ _ _ c.in_ok-check_styles.ensures;
      };
    }
