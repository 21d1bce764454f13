-- What holds of a question's answer holds where it is not refused.
use Rattle.std.proofs.Common.{◌≡◌, ℕ, List, Some, None, Option, Ok, Err, Result, IfOk, refl, sym, ◌∙◌, ap, subst, arith}
use Rattle.hir_def.specs.declared.Name.{Name}
use Rattle.hir_def.specs.declared.fault.PathFault.{PathFault}
use Rattle.path_text.specs.declared.mod_path.PathKind.{PathKind}
use Rattle.item_scope.specs.Views.{View}
use Rattle.path_resolution.specs.declared.answer.ResolvePathResult.{ResolvePathResult as Answer}
use Rattle.path_resolution.specs.declared.question.Question.{Question}
use Rattle.path_resolution.specs.Outward.{outward}
use Rattle.path_resolution.specs.Questions.{refusal_of, unless_refused, answered}

accepted : (o : Option PathFault) (x a : Answer) → Ok a ≡ unless_refused o x → (None ≡ o) × (a ≡ x)
accepted None x a e = let s : a ≡ x = cc in (refl, s)
accepted (Some r) x a e = absurd (let z : ◌≡◌ {A = ℕ} 0 1 = cc in omega arith)

pub of-answer : (v : View) (q : Question) (k : PathKind) (ms ns : List Name) (r : Result Answer PathFault) (P : Answer → Type 0)
    → ms ≡ ns → r ≡ answered v q k ms → (None ≡ refusal_of v q k ns → P (outward v q k ns q.original_module)) → IfOk r P
of-answer v q k ms ns (Err f) P same e p = tt
of-answer v q k ms ns (Ok a) P same e p =
    let ok : (None ≡ refusal_of v q k ns) × (a ≡ outward v q k ns q.original_module) =
    accepted (refusal_of v q k ns) (outward v q k ns q.original_module) a (e ∙ ap (answered v q k) same) in
    subst P (sym ok.1) (p ok.0)
