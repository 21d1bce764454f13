-- Which statements begin with which first word, and what stands after it then.
use Rattle.std.proofs.Common.{◌≡◌, ◌≢◌, ℕ, Bool, true, ◌||◌, List, codes, Option, Some, IsTrue, MatchBool, Result, sym, subst, refl}
use Rattle.std.specs.Result.{IfErr}
use Rattle.std.specs.Str.{bytes_eq}
use Rattle.hir_def.specs.Editions.{edition_text}
use Rattle.hir_def.specs.declared.edition.Edition.{Edition}
use Rattle.item_scope.specs.declared.index_data.CallStyles.{CallStyles}
use Rattle.source_text.specs.Words.{after_word}
use Rattle.source_text.specs.declared.words.Word.{Word}
use Rattle.statements.proofs.Refusals.{on_err}
use Rattle.statements.proofs.Texts.{has_bytes, is_plain}
use Rattle.statements.specs.Clauses.{shape_of}
use Rattle.statements.specs.Spelling.{word, IsWord, MaySay, IsSite, after_site, AreStyles, kind_word, IsRest, ends_with_site, after_kind, import_word, IsImport, IsLegacy, IsMeaning, IsModel, MayAsk, Spells}
use Rattle.statements.specs.declared.asking.Asking.{Asking}
use Rattle.statements.specs.declared.clauses.RawVisibility.{RawVisibility}
use Rattle.statements.specs.declared.clauses.Site.{Site}
use Rattle.statements.specs.declared.kinds.Bringing.{Bringing}
use Rattle.statements.specs.declared.kinds.Bringing.TheVariants as bringing
use Rattle.statements.specs.declared.kinds.ItemKind.{ItemKind}
use Rattle.statements.specs.declared.kinds.ItemKind.TheVariants as kind
use Rattle.statements.specs.declared.kinds.Shape.{Shape}
use Rattle.statements.specs.declared.statement.Statement.{Statement}
use Rattle.statements.specs.declared.statement.Statement.TheVariants as statement

-- the first words after which nothing but a site stands
abbrev pub begins_site : List ℕ → Bool
begins_site verb =
    bytes_eq verb (codes "item") || (bytes_eq verb (codes "fn") || (bytes_eq verb (codes "const")
    || (bytes_eq verb (codes "static") || (bytes_eq verb (codes "union") || (bytes_eq verb (codes "enum")
    || (bytes_eq verb (codes "trait") || bytes_eq verb (codes "type")))))))

abbrev pub begins_meaning : List ℕ → Bool
begins_meaning verb = bytes_eq verb (codes "extern-prelude") || bytes_eq verb (codes "macro-use")

-- what some statement with that first word has after it
unfoldable pub Follows : List ℕ → List ℕ → Type 0
Follows verb text =
    MatchBool (bytes_eq verb (codes "crate"))
    ((name : Word) × (e : Edition) × IsWord name (word 0 text) × (word 1 text ≡ edition_text e))
    (MatchBool (bytes_eq verb (codes "module"))
    ((name : Word) × (vis : RawVisibility) × IsWord name (word 0 text) × MaySay vis (after_word text))
    (MatchBool (bytes_eq verb (codes "block"))
    ((name : Word) × IsWord name (word 0 text))
    (MatchBool (begins_site verb)
    ((s : Site) × IsSite s text)
    (MatchBool (bytes_eq verb (codes "struct"))
    ((s : Site) × (shape : Shape) × (shape_of (word 0 (after_site s text)) ≡ Some shape) × IsSite s text)
    (MatchBool (bytes_eq verb (codes "macro"))
    ((s : Site) × (styles : CallStyles) × AreStyles styles (after_site s text) × IsSite s text)
    (MatchBool (bytes_eq verb (codes "variant"))
    ((name : Word) × (shape : Shape) × IsWord name (word 0 text) × (shape_of (word 1 text) ≡ Some shape))
    (MatchBool (bytes_eq verb (codes "legacy-macro"))
    ((name : Word) × (at : Word) × (meant : Option Word) × IsLegacy name at meant text)
    (MatchBool (bytes_eq verb (codes "use"))
    ((f : Word) × (s : Site) × IsImport bringing.Named f s text)
    (MatchBool (bytes_eq verb (codes "use-glob"))
    ((f : Word) × (s : Site) × IsImport bringing.Glob f s text)
    (MatchBool (bytes_eq verb (codes "extern-crate"))
    ((f : Word) × (s : Site) × IsImport bringing.ExternCrate f s text)
    (MatchBool (begins_meaning verb)
    ((name : Word) × (within : Word) × (meant : Word) × IsMeaning name within meant text)
    (MatchBool (bytes_eq verb (codes "prelude"))
    ((at : Word) × (within : Word)
    × IsWord at (word 0 text) × (word 1 text ≡ codes "in") × IsWord within (word 2 text))
    (MatchBool (bytes_eq verb (codes "path"))
    ((path : Word) × (asking : Option Asking) × IsWord path (word 0 text) × MayAsk asking (after_word text))
    (MatchBool (bytes_eq verb (codes "model"))
    ((name : Word) × (below : Option Word) × IsModel name below text)
    ⊥))))))))))))))

-- what is so of a kind whose definition ends with its visibility
pub record Bare (k : ItemKind) (text : List ℕ) : Type 0 where
  pub some : has_bytes (kind_word k) ≡ true
  pub rest : IsRest k text
  pub after : after_kind k text ≡ text
  pub site : Follows (kind_word k) text → (s : Site) × IsSite s text

module _ (verb text : List ℕ) where
  after_it : (v : List ℕ) → verb ≡ v → Follows v text → Follows verb text
  after_it v e f = subst (λ (w : List ℕ). Follows w text) (sym e) f

  follows : (s : Statement) → Spells verb text s → Follows verb text
  unfolding Follows
  follows (statement.Crate name e) h = after_it (codes "crate") h.0 (name, e, h.1, h.2)
  follows (statement.Module name vis) h = after_it (codes "module") h.0 (name, vis, h.1, h.2)
  follows (statement.Block name) h = after_it (codes "block") h.0 (name, h.1)
  follows (statement.Item s) h = after_it (codes "item") h.0 (s, h.1)
  follows (statement.Defined kind.Function s) h = after_it (codes "fn") h.0 (s, h.1)
  follows (statement.Defined kind.Const s) h = after_it (codes "const") h.0 (s, h.1)
  follows (statement.Defined kind.Static s) h = after_it (codes "static") h.0 (s, h.1)
  follows (statement.Defined (kind.Struct shape) s) h = after_it (codes "struct") h.0 (s, shape, h.2, h.1)
  follows (statement.Defined kind.Union s) h = after_it (codes "union") h.0 (s, h.1)
  follows (statement.Defined kind.Enum s) h = after_it (codes "enum") h.0 (s, h.1)
  follows (statement.Defined kind.Trait s) h = after_it (codes "trait") h.0 (s, h.1)
  follows (statement.Defined kind.TypeAlias s) h = after_it (codes "type") h.0 (s, h.1)
  follows (statement.Defined (kind.Macro styles) s) h = after_it (codes "macro") h.0 (s, styles, h.2, h.1)
  follows (statement.Defined (kind.Variant shape) s) h = absurd h.2
  follows (statement.Variant name shape) h = after_it (codes "variant") h.0 (name, shape, h.1, h.2)
  follows (statement.LegacyMacro name at meant) h = after_it (codes "legacy-macro") h.0 (name, at, meant, h.1)
  follows (statement.Use bringing.Named f s) h = after_it (codes "use") h.0 (f, s, h.1)
  follows (statement.Use bringing.Glob f s) h = after_it (codes "use-glob") h.0 (f, s, h.1)
  follows (statement.Use bringing.ExternCrate f s) h = after_it (codes "extern-crate") h.0 (f, s, h.1)
  follows (statement.ExternPrelude name at meant) h = after_it (codes "extern-prelude") h.0 (name, at, meant, h.1)
  follows (statement.MacroUse name at meant) h = after_it (codes "macro-use") h.0 (name, at, meant, h.1)
  follows (statement.Prelude at within) h = after_it (codes "prelude") h.0 (at, within, h.1, h.2, h.3)
  follows (statement.Path path asking) h = after_it (codes "path") h.0 (path, asking, h.1, h.2)
  follows (statement.Model name below) h = after_it (codes "model") h.0 (name, below, h.1)

  -- where nothing follows a first word, no statement begins with it
  pub refuse : {T E : Type 0} (r : Result T E) (v : List ℕ) → verb ≡ v → ¬ (Follows v text)
      → IfErr r (λ _. (s : Statement) → ¬ (Spells verb text s))
  refuse r v e none =
      let never : (s : Statement) → ¬ (Spells verb text s) = λ s h.
      none (subst (λ (w : List ℕ). Follows w text) e (follows s h)) in
      on_err r never

-- a definition that ends with its visibility: nothing but a site follows its first word
pub bare : (k : ItemKind) → IsTrue (ends_with_site k) → (text : List ℕ) → Bare k text
unfolding Follows
bare kind.Function e text = record { some = refl; rest = tt; after = refl; site = λ f. f }
bare kind.Const e text = record { some = refl; rest = tt; after = refl; site = λ f. f }
bare kind.Static e text = record { some = refl; rest = tt; after = refl; site = λ f. f }
bare (kind.Struct shape) e text = cc
bare kind.Union e text = record { some = refl; rest = tt; after = refl; site = λ f. f }
bare kind.Enum e text = record { some = refl; rest = tt; after = refl; site = λ f. f }
bare kind.Trait e text = record { some = refl; rest = tt; after = refl; site = λ f. f }
bare kind.TypeAlias e text = record { some = refl; rest = tt; after = refl; site = λ f. f }
bare (kind.Macro styles) e text = cc
bare (kind.Variant shape) e text = cc

-- what follows the first word of an import
pub import_follows : (b : Bringing) (text : List ℕ) → Follows (import_word b) text → (f : Word) × (s : Site) × IsImport b f s text
unfolding Follows
import_follows bringing.Named text f = f
import_follows bringing.Glob text f = f
import_follows bringing.ExternCrate text f = f

pub import_has_bytes : (b : Bringing) → has_bytes (import_word b) ≡ true
import_has_bytes bringing.Named = refl
import_has_bytes bringing.Glob = refl
import_has_bytes bringing.ExternCrate = refl

-- a text that is no first word, where a word of plain bytes has itself as its text
module _ (r verb text : List ℕ) (its : (v : List ℕ) → is_plain v ≡ true → verb ≡ v → r ≡ v)
    (not_kind : (k : ItemKind) → IsTrue (ends_with_site k) → r ≢ kind_word k)
    (not_import : (b : Bringing) → r ≢ import_word b)
    (n1 : r ≢ codes "crate") (n2 : r ≢ codes "module") (n3 : r ≢ codes "block") (n4 : r ≢ codes "item")
    (n5 : r ≢ codes "struct") (n6 : r ≢ codes "macro") (n7 : r ≢ codes "variant") (n8 : r ≢ codes "legacy-macro")
    (n9 : r ≢ codes "extern-prelude") (n10 : r ≢ codes "macro-use") (n11 : r ≢ codes "prelude")
    (n12 : r ≢ codes "path") (n13 : r ≢ codes "model") where
  pub no_first_word : (s : Statement) → ¬ (Spells verb text s)
  no_first_word (statement.Crate name e) h = n1 (its _ refl h.0)
  no_first_word (statement.Module name vis) h = n2 (its _ refl h.0)
  no_first_word (statement.Block name) h = n3 (its _ refl h.0)
  no_first_word (statement.Item s) h = n4 (its _ refl h.0)
  no_first_word (statement.Defined kind.Function s) h = not_kind kind.Function refl (its _ refl h.0)
  no_first_word (statement.Defined kind.Const s) h = not_kind kind.Const refl (its _ refl h.0)
  no_first_word (statement.Defined kind.Static s) h = not_kind kind.Static refl (its _ refl h.0)
  no_first_word (statement.Defined (kind.Struct shape) s) h = n5 (its _ refl h.0)
  no_first_word (statement.Defined kind.Union s) h = not_kind kind.Union refl (its _ refl h.0)
  no_first_word (statement.Defined kind.Enum s) h = not_kind kind.Enum refl (its _ refl h.0)
  no_first_word (statement.Defined kind.Trait s) h = not_kind kind.Trait refl (its _ refl h.0)
  no_first_word (statement.Defined kind.TypeAlias s) h = not_kind kind.TypeAlias refl (its _ refl h.0)
  no_first_word (statement.Defined (kind.Macro styles) s) h = n6 (its _ refl h.0)
  no_first_word (statement.Defined (kind.Variant shape) s) h = absurd h.2
  no_first_word (statement.Variant name shape) h = n7 (its _ refl h.0)
  no_first_word (statement.LegacyMacro name at meant) h = n8 (its _ refl h.0)
  no_first_word (statement.Use bringing.Named f s) h = not_import bringing.Named (its _ refl h.0)
  no_first_word (statement.Use bringing.Glob f s) h = not_import bringing.Glob (its _ refl h.0)
  no_first_word (statement.Use bringing.ExternCrate f s) h = not_import bringing.ExternCrate (its _ refl h.0)
  no_first_word (statement.ExternPrelude name within meant) h = n9 (its _ refl h.0)
  no_first_word (statement.MacroUse name within meant) h = n10 (its _ refl h.0)
  no_first_word (statement.Prelude at within) h = n11 (its _ refl h.0)
  no_first_word (statement.Path path asking) h = n12 (its _ refl h.0)
  no_first_word (statement.Model name below) h = n13 (its _ refl h.0)
