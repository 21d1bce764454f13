use Rattle.std.proofs.Common.{◌≡◌, ◌≢◌, ◌-◌, ◌^◌, ◌<◌, length, None, get_or, set, min, rules, ap, sym, ◌∙◌, refl}
use Rattle.std.proofs.lemmas.List.{get_or_default}
use Rattle.hir_def.specs.declared.edition.Edition.TheVariants.{Edition2015}
use Rattle.nameres.specs.declared.tree_rows.CrateRow.{CrateRow}
use Rattle.nameres.specs.declared.tree_rows.ModuleRow.{ModuleRow}
use Rattle.world_lines.proofs.Roots.{top, one_edition_more, led, unled_by}
use Rattle.world_lines.proofs.tables.Tables.crates.Goals.{then-is_top+then-krate-len+then-index, else-is_top, else-is_top-via-then-is_top+then-krate-len+else-index, else-is_top-via-then-is_top+else-krate-len, else-is_top-via-else-is_top}
use Rattle.world_lines.proofs.tables.Tables.crates.Goals as goal

pub loop-edition-preserved : goal.loop-edition-preserved
loop-edition-preserved c =
    one_edition_more _ _ c.deref-edition-items.result.now c.loop-edition.edition-index _ c.loop-edition-test.true c.loop-edition.invariant c.in_ok-push.ensures.items

-- what a read past the end would give
abbrev no_module : ModuleRow
no_module = record { krate = record { 0 = 0 }; block = None; parent = None }

abbrev no_crate : CrateRow
no_crate = record { root = record { 0 = 0 }; edition = Edition2015 }

pub loop-number-preserved : goal.loop-number-preserved
loop-number-preserved c =
    let ms = c.deref-row-items.result.now in
    let n = c.loop-number.number in
    let m = get_or ms n no_module in
    let rows = c.loop-number.rows.items in
    let es = c.args.self.now.editions.items in
    let t : top m ≡ c.if-is_none.is_top = search rules in
    elim c.if-is_top.branch [
      | then-is_top+then-krate-len+then-index w ↦
          let k : m.krate.0 < length rows = search rules in
          let u : w.unwrap_or.result ≡ min n (2 ^ 32 - 1) = search rules in
          let x : w.index_mut.result.now.edition ≡ (get_or rows m.krate.0 no_crate).edition = ap (λ r. r.edition) (w.index_mut.ensures.value ∙ get_or_default rows m.krate.0 _ no_crate k) in
          let r : w.index.result.now.root.0 ≡ 2 ^ 32 - 1 = w.if-index.true in
          let r' : (get_or rows m.krate.0 no_crate).root.0 ≡ 2 ^ 32 - 1 = ap (λ r. r.root.0) (sym (w.index.ensures ∙ get_or_default rows m.krate.0 _ no_crate k)) ∙ r in
          let e : c.if-is_top.rows.items ≡ set rows m.krate.0 (record { root = record { 0 = min n (2 ^ 32 - 1) }; edition = (get_or rows m.krate.0 no_crate).edition }) = rw (w.rows-is, u, x) refl in
          led rows c.if-is_top.rows.items es ms n no_module no_crate c.loop-number-test.true c.loop-number.invariant (search rules) k r' e
      | else-is_top w ↦
          unled_by rows c.if-is_top.rows.items es ms n no_module no_crate c.loop-number-test.true c.loop-number.invariant
          (elim w.else-is_top.branch [
            | else-is_top-via-then-is_top+then-krate-len+else-index v ↦ λ a b q.
                let f : v.index.result.now.root.0 ≢ 2 ^ 32 - 1 = v.if-index.false in
                f (ap (λ r. r.root.0) (v.index.ensures ∙ get_or_default rows m.krate.0 _ no_crate b) ∙ q)
            | else-is_top-via-then-is_top+else-krate-len v ↦ λ a b. search rules
            | else-is_top-via-else-is_top v ↦ λ a b. search rules
          ]) (search rules)
    ]
