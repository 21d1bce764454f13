use Rattle.std.proofs.Common.{◌<◌, length, sym, refl, ◌∙◌, ne_eqb, arith}
use Rattle.path_text.proofs.Follow.{no, name-kind}
use Rattle.path_text.proofs.Named.{named, tailed}
use Rattle.path_text.proofs.path_text.is_name.Goals as goal

pub returns-in-Name : goal.returns-in-Name
returns-in-Name c = (λ _. named c.args.text.now (λ k h. c.word_len.ensures.word k (omega arith)) (sym c.word_kind.ensures ∙ c.in-Name.is), λ _. refl)

pub returns-in_default : goal.returns-in_default
returns-in_default c = (λ e. no e, λ n. absurd (c.in_default.not-Name (c.word_kind.ensures ∙ name-kind c.args.text.now n)))

pub returns-else-word_len-text : goal.returns-else-word_len-text
returns-else-word_len-text c =
    let h : c.word_len.result < length c.args.text.now = omega (arith, c.word_len.ensures.within) in
    rw (ne_eqb _ _ c.if-word_len-text.false) (λ e. no e, λ n. tailed c.args.text.now c.word_len.result h (c.word_len.ensures.ended h) n)
