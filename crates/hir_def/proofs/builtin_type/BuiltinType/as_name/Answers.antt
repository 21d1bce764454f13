use Rattle.std.proofs.Common.{◌+◌, sym, ap, ◌∙◌}
use Rattle.hir_def.specs.Builtins.{number_of}
use Rattle.hir_def.proofs.Tabled.{int_tag, uint_tag, float_tag, named}
use Rattle.hir_def.proofs.builtin_type.BuiltinType.as_name.Goals as goal

pub returns-in-Int : goal.returns-in-Int
returns-in-Int c = named _ _ (ap (λ k. 3 + k) (int_tag _) ∙ sym (ap number_of c.in-Int.is))

pub returns-in-Uint : goal.returns-in-Uint
returns-in-Uint c = named _ _ (ap (λ k. 9 + k) (uint_tag _) ∙ sym (ap number_of c.in-Uint.is))

pub returns-in-Float : goal.returns-in-Float
returns-in-Float c = named _ _ (ap (λ k. 15 + k) (float_tag _) ∙ sym (ap number_of c.in-Float.is))
