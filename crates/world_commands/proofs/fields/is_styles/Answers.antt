use Rattle.std.proofs.Common.{◌≡◌, ◌==◌, ◌||◌, ◌∙◌, sym, rules, tests}
use Rattle.std.specs.List.{list_all}
use Rattle.std.proofs.lemmas.Iterator.{YieldsList-from_slice}
use Rattle.std.proofs.lemmas.Iterator.Search.{all_from_yields_List}
use Rattle.world_commands.proofs.fields.is_styles.Goals as goal

pub returns-then-not-is_empty : goal.returns-then-not-is_empty
returns-then-not-is_empty c =
    let e : c.all.result ≡ list_all (λ b. b == 102 || (b == 97 || b == 100)) c.args.letters.now = all_from_yields_List _ _ _ c.all.result c.all.ensures.ran (YieldsList-from_slice c.args.letters.now cc) (λ x b q k. search (rules, tests)) in
    rw (sym c.is_empty.ensures ∙ c.if-not-is_empty.true) e
