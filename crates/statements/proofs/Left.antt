-- What is left after a statement: it follows from the words alone, so it is one, whatever statement they spell.
use Rattle.std.proofs.Common.{◌≡◌, ◌≢◌, ℕ, Bool, true, false, ◌||◌, if◌then◌else◌, List, [], codes, Option, Some, None, inl, inr, Result, sym, subst, ap, refl, ◌∙◌}
use Rattle.std.specs.Result.{IfErr}
use Rattle.std.specs.Str.{bytes_eq}
use Rattle.source_text.specs.Words.{after_word}
use Rattle.source_text.specs.declared.words.Word.{Word}
use Rattle.statements.proofs.FirstWords.{begins_meaning}
use Rattle.statements.proofs.Refusals.{on_err}
use Rattle.statements.specs.Clauses.{Says}
use Rattle.statements.specs.Spelling.{word, after_words, Ends, after_visibility, MaySay, IsSite, after_site, after_import_name, IsImport, after_import, MayGoOn, after_going_on, MayAsk, after_asking, Spells, after_statement, IsReadable}
use Rattle.statements.specs.declared.asking.Asking.{Asking}
use Rattle.statements.specs.declared.clauses.RawVisibility.{RawVisibility}
use Rattle.statements.specs.declared.clauses.RawVisibility.TheVariants as raw
use Rattle.statements.specs.declared.clauses.Site.{Site}
use Rattle.statements.specs.declared.kinds.Bringing.{Bringing}
use Rattle.statements.specs.declared.kinds.Bringing.TheVariants as bringing
use Rattle.statements.specs.declared.kinds.ItemKind.TheVariants as kind
use Rattle.statements.specs.declared.statement.Statement.{Statement}
use Rattle.statements.specs.declared.statement.Statement.TheVariants as statement

-- a choice by a word, at an equal word
by_word : (w v key a b : List ℕ) → w ≡ v → (if bytes_eq v key then a else b) ≡ (if bytes_eq w key then a else b)
by_word w v key a b e = ap (λ (x : List ℕ). if bytes_eq x key then a else b) (sym e)

abbrev left_visibility : List ℕ → List ℕ
left_visibility text = if bytes_eq (word 0 text) (codes "pub(in") then after_words 2 text else after_word text

module _ (text : List ℕ) where
  at_visibility : (v : List ℕ) → word 0 text ≡ v
      → (if bytes_eq v (codes "pub(in") then after_words 2 text else after_word text) ≡ left_visibility text
  at_visibility v e = by_word (word 0 text) v (codes "pub(in") (after_words 2 text) (after_word text) e

  left_says : (vis : RawVisibility) → Says (word 0 text) (word 1 text) vis
      → after_visibility vis text ≡ left_visibility text
  left_says raw.Public h = at_visibility (codes "pub") h
  left_says raw.Crate h = at_visibility (codes "pub(crate)") h
  left_says (raw.In m) h = at_visibility (codes "pub(in") h.0
  left_says raw.Private h = at_visibility (codes "private") h

  left_may_say : (vis : RawVisibility) → MaySay vis text → after_visibility vis text ≡ left_visibility text
  left_may_say vis (inl h) = left_says vis h
  left_may_say vis (inr h) = ap (λ (v : RawVisibility). after_visibility v text) h.1 ∙ at_visibility [] h.0

abbrev left_site : List ℕ → List ℕ
left_site text = left_visibility (after_words 3 text)

left_of_site : (text : List ℕ) (s : Site) → IsSite s text → after_site s text ≡ left_site text
left_of_site text s h = left_says (after_words 3 text) s.vis h.1.1.1

abbrev left_import : List ℕ → List ℕ
left_import text = left_visibility (after_words 2 (after_import_name (after_word text)))

left_of_import : (b : Bringing) (full : Word) (s : Site) (text : List ℕ) → IsImport b full s text
    → after_import s text ≡ left_import text
left_of_import b full s text h = left_says (after_words 2 (after_import_name (after_word text))) s.vis h.2.1.1

-- after a keyword with what it is the key to, or after the end
abbrev left_after_key : List ℕ → List ℕ → List ℕ → List ℕ
left_after_key key more text = if bytes_eq (word 0 text) key then more else after_word text

left_of_more : (key text : List ℕ) (o : Option Word) → bytes_eq key key ≡ true → bytes_eq [] key ≡ false
    → MayGoOn key o text → after_going_on o text ≡ left_after_key key (after_words 2 text) text
left_of_more key text None same other h =
    ap (λ (b : Bool). if b then after_words 2 text else after_word text) (sym other)
    ∙ by_word (word 0 text) [] key (after_words 2 text) (after_word text) h
left_of_more key text (Some w) same other h =
    ap (λ (b : Bool). if b then after_words 2 text else after_word text) (sym same)
    ∙ by_word (word 0 text) key key (after_words 2 text) (after_word text) h.0

left_of_asking : (text : List ℕ) (o : Option Asking) → MayAsk o text
    → after_asking o text ≡ left_after_key (codes "from") (after_words 5 text) text
left_of_asking text None h = by_word (word 0 text) [] (codes "from") (after_words 5 text) (after_word text) h
left_of_asking text (Some a) h =
    by_word (word 0 text) (codes "from") (codes "from") (after_words 5 text) (after_word text) h.0

abbrev begins_import : List ℕ → Bool
begins_import verb =
    bytes_eq verb (codes "use") || (bytes_eq verb (codes "use-glob") || bytes_eq verb (codes "extern-crate"))

-- what is left after a statement with that first word; where it is none of these, the statement ends with a site
unfoldable left_after : List ℕ → List ℕ → List ℕ
left_after verb text =
    if bytes_eq verb (codes "crate") || bytes_eq verb (codes "variant") then after_words 2 text
    else if bytes_eq verb (codes "module") then left_visibility (after_word text)
    else if bytes_eq verb (codes "block") then after_word text
    else if bytes_eq verb (codes "struct") then after_word (left_site text)
    else if bytes_eq verb (codes "macro") then after_words 3 (left_site text)
    else if bytes_eq verb (codes "legacy-macro")
    then left_after_key (codes "is") (after_words 5 text) (after_words 3 text)
    else if begins_import verb then left_import text
    else if begins_meaning verb then after_words 5 text
    else if bytes_eq verb (codes "prelude") then after_words 3 text
    else if bytes_eq verb (codes "path") then left_after_key (codes "from") (after_words 6 text) (after_word text)
    else if bytes_eq verb (codes "model") then left_after_key (codes "over") (after_words 3 text) (after_word text)
    else left_site text

module _ (verb text : List ℕ) where
  at_word : (v : List ℕ) → verb ≡ v → left_after v text ≡ left_after verb text
  at_word v e = ap (λ (w : List ℕ). left_after w text) (sym e)

  left_of : (s : Statement) → Spells verb text s → after_statement s text ≡ left_after verb text
  unfolding left_after
  left_of (statement.Crate name e) h = at_word (codes "crate") h.0
  left_of (statement.Module name vis) h = left_may_say (after_word text) vis h.2 ∙ at_word (codes "module") h.0
  left_of (statement.Block name) h = at_word (codes "block") h.0
  left_of (statement.Item s) h = left_of_site text s h.1 ∙ at_word (codes "item") h.0
  left_of (statement.Defined kind.Function s) h = left_of_site text s h.1 ∙ at_word (codes "fn") h.0
  left_of (statement.Defined kind.Const s) h = left_of_site text s h.1 ∙ at_word (codes "const") h.0
  left_of (statement.Defined kind.Static s) h = left_of_site text s h.1 ∙ at_word (codes "static") h.0
  left_of (statement.Defined (kind.Struct shape) s) h =
      ap after_word (left_of_site text s h.1) ∙ at_word (codes "struct") h.0
  left_of (statement.Defined kind.Union s) h = left_of_site text s h.1 ∙ at_word (codes "union") h.0
  left_of (statement.Defined kind.Enum s) h = left_of_site text s h.1 ∙ at_word (codes "enum") h.0
  left_of (statement.Defined kind.Trait s) h = left_of_site text s h.1 ∙ at_word (codes "trait") h.0
  left_of (statement.Defined kind.TypeAlias s) h = left_of_site text s h.1 ∙ at_word (codes "type") h.0
  left_of (statement.Defined (kind.Macro styles) s) h =
      ap (after_words 3) (left_of_site text s h.1) ∙ at_word (codes "macro") h.0
  left_of (statement.Defined (kind.Variant shape) s) h = absurd h.2
  left_of (statement.Variant name shape) h = at_word (codes "variant") h.0
  left_of (statement.LegacyMacro name at meant) h =
      left_of_more (codes "is") (after_words 3 text) meant refl refl h.1.3 ∙ at_word (codes "legacy-macro") h.0
  left_of (statement.Use bringing.Named f s) h = left_of_import bringing.Named f s text h.1 ∙ at_word (codes "use") h.0
  left_of (statement.Use bringing.Glob f s) h =
      left_of_import bringing.Glob f s text h.1 ∙ at_word (codes "use-glob") h.0
  left_of (statement.Use bringing.ExternCrate f s) h =
      left_of_import bringing.ExternCrate f s text h.1 ∙ at_word (codes "extern-crate") h.0
  left_of (statement.ExternPrelude name within meant) h = at_word (codes "extern-prelude") h.0
  left_of (statement.MacroUse name within meant) h = at_word (codes "macro-use") h.0
  left_of (statement.Prelude at within) h = at_word (codes "prelude") h.0
  left_of (statement.Path path asking) h = left_of_asking (after_word text) asking h.2 ∙ at_word (codes "path") h.0
  left_of (statement.Model name below) h =
      left_of_more (codes "over") (after_word text) below refl refl h.1.1 ∙ at_word (codes "model") h.0

-- where a word is left after some statement that the words of a line spell, the whole line spells none
module _ (line verb text rest : List ℕ) (s : Statement) (first : verb ≡ word 0 line) (some : word 0 line ≢ [])
    (after : text ≡ after_word line) (spelt : Spells verb text s) (left : rest ≡ after_statement s text)
    (more : ¬ (Ends rest)) where
  none_ends : ¬ (IsReadable line)
  none_ends (None, ends) = some ends
  none_ends (Some p, r) =
      let here : rest ≡ left_after (word 0 line) (after_word line) =
      left ∙ left_of verb text s spelt ∙ ap (λ (v : List ℕ). left_after v text) first
      ∙ ap (left_after (word 0 line)) after in
      more (subst Ends (left_of (word 0 line) (after_word line) p.1 r.1.0 ∙ sym here) r.1.1)

  pub one_too_many : {T E : Type 0} (r : Result T E) → IfErr r (λ _. ¬ (IsReadable line))
  one_too_many r = on_err r none_ends
