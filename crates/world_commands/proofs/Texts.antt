-- What is answered to a text follows from what it is read as.
use Rattle.std.proofs.Common.{◌≡◌, ℕ, ap, ◌∙◌, sym, subst, List, Ok, Err, Result}
use Rattle.std.specs.declared.alloc.AllocError.{AllocError}
use Rattle.hir_def.specs.declared.fault.TextFault.{TextFault}
use Rattle.item_scope.specs.Views.{View}
use Rattle.path_text.specs.declared.mod_path.ModPath.{ModPath}
use Rattle.path_resolution.specs.declared.question.Question.{Question}
use Rattle.world_commands.specs.declared.answer.Answer.{Answer}
use Rattle.world_commands.specs.Answers.{read_asked, read_answer, ask_read, IsReadAs, IsAskedAs, TextAnswer, PathRead}

pub no_memory : (Means : List (List ℕ) → List ℕ → Answer → Type 0) (names : Result (List (List ℕ)) TextFault) (text : List ℕ) (e : AllocError) → PathRead names text (Err e) → TextAnswer Means names text (Err e)
no_memory Means (Err f) text e h = cc
no_memory Means (Ok l) text e h = h

pub path_read : (names : Result (List (List ℕ)) TextFault) (text : List ℕ) (r : Result ModPath TextFault) (a : Answer) → PathRead names text (Ok r) → a ≡ read_answer r → TextAnswer IsReadAs names text (Ok a)
path_read (Err f) text r a h e = cc
path_read (Ok l) text (Ok p) a h e = subst (IsReadAs l text) (sym e) h.1
path_read (Ok l) text (Err f) a h e = subst (IsReadAs l text) (sym e) h.1

pub path_asked : (v : View) (q : Question) (names : Result (List (List ℕ)) TextFault) (text : List ℕ) (r : Result ModPath TextFault) (a : Answer) → PathRead names text (Ok r) → a ≡ ask_read v q r → TextAnswer (IsAskedAs v q) names text (Ok a)
path_asked v q (Err f) text r a h e = cc
path_asked v q (Ok l) text (Ok p) a h e = e ∙ sym (ap (read_asked v q) h.0)
path_asked v q (Ok l) text (Err f) a h e = e ∙ sym (ap (read_asked v q) h.0)
