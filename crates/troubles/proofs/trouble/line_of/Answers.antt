use Rattle.std.proofs.Common.{rules, tests, ◌==◌, ℕ, List, [], unwrap_or, ap, ◌∙◌}
use Rattle.std.specs.List.{slice_get, slice_split}
use Rattle.std.specs.Borrow.{Bor}
use Rattle.std.proofs.lemmas.Iterator.Consumers.{nth_from_yields_List}
use Rattle.std.proofs.lemmas.Iterator.Splits.{YieldsList-from_slice_split}
use Rattle.std.specs.Str.Lines.{strip_carriage_return}
use Rattle.troubles.proofs.Ends.{taken, stripped}
use Rattle.troubles.proofs.trouble.line_of.Goals as goal

-- The parts that the text splits into at its line feeds, the one of that number among them, and that one without its end.
pub returns : goal.returns
returns c =
    let text = c.args.text.now in
    let got = nth_from_yields_List c.nth.result _ _ c.nth.ensures.ran
    (YieldsList-from_slice_split _ (λ b. b == 10) text c.split.ensures.rest c.split.ensures.done c.split.ensures.closure (λ x b q k. search (rules, tests))) in
    let line = ap (λ (b : Bor (List ℕ)). b.now) c.unwrap_or-line.ensures ∙ taken _ _ _ got in
    ap (λ (b : Bor (List ℕ)). b.now) c.unwrap_or.ensures ∙ stripped c.unwrap_or-line.result c.strip_suffix.result c.strip_suffix.ensures.cases
    ∙ ap strip_carriage_return line
    ∙ ap (λ (k : ℕ). strip_carriage_return (unwrap_or (slice_get (slice_split (λ b. b == 10) text) k) [])) c.saturating_sub.ensures
