-- What a refusal comes to.
use Rattle.std.proofs.Common.{◌≡◌, ◌≢◌, ◌+◌, length, arith, false, inl, inr, Ok, Err, Result, [], List, ℕ, Option, subst, sym}
use Rattle.std.specs.Result.{IfErr}
use Rattle.entries.specs.declared.visibility.Visibility.{Visibility}
use Rattle.entries.specs.declared.visibility.Visibility.TheVariants as vis
use Rattle.entries.specs.declared.visibility.VisibilityExplicitness.TheVariants.{Explicit, Implicit}
use Rattle.file_reader.specs.Reading.{IsReadAt, MayFollow}
use Rattle.file_reader.specs.Refusals.{OnRefused, ToldAt}
use Rattle.file_reader.specs.Named.{Names, Tells}
use Rattle.file_reader.specs.declared.reader.Known.{Known}
use Rattle.file_reader.specs.Told.{Modules, Told}
use Rattle.hir_def.specs.Faults.{IfRefused}
use Rattle.hir_def.specs.declared.ModuleId.{ModuleId}
use Rattle.hir_def.specs.declared.fault.Failure.{Failure}
use Rattle.hir_def.specs.declared.fault.Failure.TheVariants.{Memory, Refused}
use Rattle.source_text.specs.declared.words.Word.{Word}
use Rattle.statements.specs.Columns.{AllStandAt}
use Rattle.statements.specs.Lines.{AllStandIn}
use Rattle.statements.specs.Spelling.{IsRead, stands_below_models}
use Rattle.statements.specs.declared.clauses.RawVisibility.TheVariants as raw
use Rattle.statements.specs.declared.statement.Statement.{Statement}
use Rattle.troubles.specs.declared.complaint.Complaint.{Complaint}
use Rattle.troubles.specs.declared.trouble.Trouble.{Trouble}
use Rattle.troubles.specs.declared.trouble.Trouble.TheVariants.{Text}

-- what holds whatever the outcome is
pub on_refused : {T R P : Type 0} (r : Result T (Failure R)) → P → OnRefused r P
on_refused (Ok x) p = tt
on_refused (Err (Memory e)) p = tt
on_refused (Err (Refused f)) p = p

-- what follows where a call refuses
pub then_refused : {T R P Q : Type 0} (r : Result T (Failure R)) → (P → Q) → OnRefused r P → OnRefused r Q
then_refused (Ok x) f h = tt
then_refused (Err (Memory e)) f h = tt
then_refused (Err (Refused r)) f h = f h

-- a failure is passed on as it is
pub passed : {T U R P : Type 0} (I Q : R → Type 0) (r : Result T (Failure R)) (s : Result U (Failure R)) (e : Failure R)
    → r ≡ Err e → s ≡ Err e → ((t : R) → P → I t → Q t) → OnRefused r P → IfErr r (IfRefused I) → IfErr s (IfRefused Q)
passed I Q (Ok x) s e h k f p i = absurd (cc)
passed I Q (Err a) (Ok x) e h k f p i = tt
passed I Q (Err a) (Err (Memory m)) e h k f p i = tt
passed I Q (Err (Memory n)) (Err (Refused d)) e h k f p i = absurd (cc)
passed I Q (Err (Refused b)) (Err (Refused d)) e h k f p i = let same : b ≡ d = cc in f d p (subst I same i)

-- what is wrong with a statement is told in its line
pub told_at : {T : Type 0} (r : Result T (Failure Trouble)) (c : Complaint) (n : ℕ) → r ≡ Err (Refused (Text c)) → c.line ≡ n → ToldAt n r
told_at r c n e h = subst (ToldAt n) (sym e) h

-- where no module is named, no visibility is told
pub none_told : (above : Modules) (at : Known) (w : Word)
    → ((m : ModuleId) → ¬ (Names above w.text.now m)) → (v : Visibility) → ¬ (Tells above at (raw.In w) v)
none_told above at w none (vis.Module m Explicit) h = none m h
none_told above at w none (vis.Module m Implicit) h = h
none_told above at w none vis.Public h = h
none_told above at w none (vis.PubCrate c) h = h

-- a statement of the tree below a model
pub may_not_follow : (s : Statement) (r : Told)
    → r.models ≢ [] → stands_below_models s ≡ false → ¬ (MayFollow s r)
may_not_follow s r some never (inl h) = some h
may_not_follow s r some never (inr h) = cc

-- what is read of a line stands in it
pub read_at : (a b : ℕ) (code : List ℕ) (o : Option (Word × Statement)) (column : ℕ) → a ≡ b → column ≡ 0 → IsRead code o → AllStandIn a o → AllStandAt (column + length code) code o → IsReadAt b code o
read_at a b code o column e z r l s =
    let end : column + length code ≡ length code = omega (arith, z) in
    (r, subst (λ n. AllStandIn n o) e l, subst (λ k. AllStandAt k code o) end s)
