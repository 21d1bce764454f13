-- By which words each statement is spelt.
use Rattle.std.specs.Prelude.{◌≡◌, ◌≢◌, ⊤, ℕ, zero, suc, Bool, true, false, ◌⊎◌, if◌then◌else◌, List, [], ◌∷◌, take, codes, Option, Some, None, IsTrue, MatchBool, MatchOption}
use Rattle.std.specs.Str.{bytes_eq}
use Rattle.hir_def.specs.Editions.{edition_text}
use Rattle.item_scope.specs.IndexData.{no_styles}
use Rattle.item_scope.specs.declared.index_data.CallStyles.{CallStyles}
use Rattle.memchr.specs.Find as find
use Rattle.path_resolution.specs.declared.question.BuiltinShadowMode.TheVariants as shadow
use Rattle.path_resolution.specs.declared.question.ResolveMode.TheVariants as mode
use Rattle.source_text.specs.Words.{first_word, after_word}
use Rattle.source_text.specs.declared.words.Word.{Word}
use Rattle.statements.specs.Clauses.{is_style, with_style, is_option, with_option, shape_of, Says}
use Rattle.statements.specs.Names.{LastName}
use Rattle.statements.specs.declared.asking.Asking.{Asking}
use Rattle.statements.specs.declared.clauses.RawVisibility.{RawVisibility}
use Rattle.statements.specs.declared.clauses.RawVisibility.TheVariants as raw
use Rattle.statements.specs.declared.clauses.Site.{Site}
use Rattle.statements.specs.declared.kinds.Bringing.{Bringing}
use Rattle.statements.specs.declared.kinds.Bringing.TheVariants as bringing
use Rattle.statements.specs.declared.kinds.ItemKind.{ItemKind}
use Rattle.statements.specs.declared.kinds.ItemKind.TheVariants as kind
use Rattle.statements.specs.declared.statement.Statement.{Statement}
use Rattle.statements.specs.declared.statement.Statement.TheVariants as statement

abbrev pub slashes : List ℕ
slashes = 47 ∷ 47 ∷ []

-- where the first `//` begins
abbrev pub first_slashes : List ℕ → Option ℕ
first_slashes text = find.first_of (find.matches text slashes 0)

-- what comes before the first `//`, or the whole
abbrev pub BeforeComment : List ℕ → List ℕ → Type 0
BeforeComment text code = MatchOption (first_slashes text) (code ≡ text) (λ k. code ≡ take k text)

-- what is left of a text after its first k words, and the word that comes next; empty where there is none
abbrev pub after_words : ℕ → List ℕ → List ℕ
after_words zero text = text
after_words (suc k) text = after_words k (after_word text)

abbrev pub word : ℕ → List ℕ → List ℕ
word k text = first_word (after_words k text)

-- the word that stands there
abbrev pub IsWord : Word → List ℕ → Type 0
IsWord w there = (w.text.now ≡ there) × (there ≢ [])

-- no word comes
abbrev pub Ends : List ℕ → Type 0
Ends text = first_word text ≡ []

-- a visibility takes one word more where it names a module
abbrev pub after_module : RawVisibility → List ℕ → List ℕ
after_module raw.Public text = text
after_module raw.Crate text = text
after_module (raw.In m) text = after_word text
after_module raw.Private text = text

abbrev pub after_visibility : RawVisibility → List ℕ → List ℕ
after_visibility vis text = after_module vis (after_word text)

-- a visibility, or no word more: then it is private
abbrev pub MaySay : RawVisibility → List ℕ → Type 0
MaySay vis text = Says (word 0 text) (word 1 text) vis ⊎ (Ends text × (vis ≡ raw.Private))

-- `MODULE VISIBILITY`
abbrev pub IsWithin : Word → RawVisibility → List ℕ → Type 0
IsWithin at vis text = IsWord at (word 0 text) × Says (word 1 text) (word 2 text) vis

-- `in MODULE VISIBILITY`
abbrev pub IsPlace : Word → RawVisibility → List ℕ → Type 0
IsPlace at vis text = (word 0 text ≡ codes "in") × IsWithin at vis (after_word text)

-- `NAME in MODULE VISIBILITY`
abbrev pub IsSite : Site → List ℕ → Type 0
IsSite s text = IsWord s.name (word 0 text) × IsPlace s.«module» s.vis (after_word text)

abbrev pub after_site : Site → List ℕ → List ℕ
after_site s text = after_visibility s.vis (after_words 3 text)

unfoldable pub MayBeStyle : List ℕ → Type 0
MayBeStyle w = (w ≡ []) ⊎ IsTrue (is_style w)

-- the styles of a macro: a word that is one, and up to two more
unfoldable pub AreStyles : CallStyles → List ℕ → Type 0
AreStyles styles text =
    (styles ≡ with_style (with_style (with_style no_styles (word 0 text)) (word 1 text)) (word 2 text))
    × IsTrue (is_style (word 0 text)) × MayBeStyle (word 1 text) × MayBeStyle (word 2 text)

-- the first word of a definition, by its kind
abbrev pub kind_word : ItemKind → List ℕ
kind_word kind.Function = codes "fn"
kind_word kind.Const = codes "const"
kind_word kind.Static = codes "static"
kind_word (kind.Struct shape) = codes "struct"
kind_word kind.Union = codes "union"
kind_word kind.Enum = codes "enum"
kind_word kind.Trait = codes "trait"
kind_word kind.TypeAlias = codes "type"
kind_word (kind.Macro styles) = codes "macro"
kind_word (kind.Variant shape) = codes "variant"

-- what stands after its visibility: a struct's shape, a macro's styles, and nothing of the others; a variant is no definition that stands in a module
abbrev pub IsRest : ItemKind → List ℕ → Type 0
IsRest (kind.Struct shape) text = shape_of (word 0 text) ≡ Some shape
IsRest (kind.Macro styles) text = AreStyles styles text
IsRest (kind.Variant shape) text = ⊥
IsRest k text = ⊤

-- whether it ends with its visibility
abbrev pub ends_with_site : ItemKind → Bool
ends_with_site (kind.Struct shape) = false
ends_with_site (kind.Macro styles) = false
ends_with_site (kind.Variant shape) = false
ends_with_site k = true

abbrev pub after_kind : ItemKind → List ℕ → List ℕ
after_kind (kind.Struct shape) text = after_word text
after_kind (kind.Macro styles) text = after_words 3 text
after_kind k text = text

-- the first word of an import
abbrev pub import_word : Bringing → List ℕ
import_word bringing.Named = codes "use"
import_word bringing.Glob = codes "use-glob"
import_word bringing.ExternCrate = codes "extern-crate"

-- only a named import and a crate may come under another name
abbrev pub may_rename : Bringing → Bool
may_rename bringing.Named = true
may_rename bringing.Glob = false
may_rename bringing.ExternCrate = true

-- the name of an import, after the full one: `as NAME`, or else it is the last name of the full one
abbrev pub renames : List ℕ → Bool
renames text = bytes_eq (word 0 text) (codes "as")

unfoldable pub IsImportName : Bringing → List ℕ → List ℕ → List ℕ → Type 0
IsImportName b full name text = MatchBool (renames text) (IsTrue (may_rename b) × (name ≡ word 1 text) × (word 1 text ≢ [])) (LastName full name)

unfoldable pub after_import_name : List ℕ → List ℕ
after_import_name text = if renames text then after_words 2 text else text

-- `FULL in MODULE VISIBILITY` or `FULL as NAME in MODULE VISIBILITY`
abbrev pub IsImport : Bringing → Word → Site → List ℕ → Type 0
IsImport b full s text =
    IsWord full (word 0 text)
    × IsImportName b full.text.now s.name.text.now (after_word text)
    × IsPlace s.«module» s.vis (after_import_name (after_word text))

abbrev pub after_import : Site → List ℕ → List ℕ
after_import s text = after_visibility s.vis (after_words 2 (after_import_name (after_word text)))

-- a keyword and a word, or no word more
abbrev pub MayGoOn : List ℕ → Option Word → List ℕ → Type 0
MayGoOn key None text = Ends text
MayGoOn key (Some w) text = (word 0 text ≡ key) × IsWord w (word 1 text)

abbrev pub after_going_on : Option Word → List ℕ → List ℕ
after_going_on None text = after_word text
after_going_on (Some w) text = after_words 2 text

-- `NAME in MODULE` or `NAME in MODULE is MACRO`
abbrev pub IsLegacy : Word → Word → Option Word → List ℕ → Type 0
IsLegacy name at meant text =
    IsWord name (word 0 text) × (word 1 text ≡ codes "in") × IsWord at (word 2 text)
    × MayGoOn (codes "is") meant (after_words 3 text)

-- `NAME in MAP is MEANT`, where the map is a crate or a block
abbrev pub IsMeaning : Word → Word → Word → List ℕ → Type 0
IsMeaning name within meant text =
    IsWord name (word 0 text) × (word 1 text ≡ codes "in") × IsWord within (word 2 text)
    × (word 3 text ≡ codes "is") × IsWord meant (word 4 text)

-- `NAME`, or `NAME over MODEL`
abbrev pub IsModel : Word → Option Word → List ℕ → Type 0
IsModel name below text = IsWord name (word 0 text) × MayGoOn (codes "over") below (after_word text)

-- a question from that module, of which nothing more is told
abbrev pub plain_asking : Word → Asking
plain_asking at = record { «module» = at; mode = mode.Other; shadow = shadow.Other; expected = None }

abbrev pub MayBeOption : List ℕ → Type 0
MayBeOption w = (w ≡ []) ⊎ IsTrue (is_option w)

-- `from MODULE` and up to three options, or no word more
abbrev pub MayAsk : Option Asking → List ℕ → Type 0
MayAsk None text = Ends text
MayAsk (Some a) text =
    (word 0 text ≡ codes "from") × IsWord a.«module» (word 1 text)
    × (a ≡ with_option (with_option (with_option (plain_asking a.«module») (word 2 text)) (word 3 text)) (word 4 text))
    × MayBeOption (word 2 text) × MayBeOption (word 3 text) × MayBeOption (word 4 text)

abbrev pub after_asking : Option Asking → List ℕ → List ℕ
after_asking None text = after_word text
after_asking (Some a) text = after_words 5 text

-- a statement's first word, and the words after it
abbrev pub Spells : List ℕ → List ℕ → Statement → Type 0
Spells verb text (statement.Crate name edition) =
    (verb ≡ codes "crate") × IsWord name (word 0 text) × (word 1 text ≡ edition_text edition)
Spells verb text (statement.Module name vis) =
    (verb ≡ codes "module") × IsWord name (word 0 text) × MaySay vis (after_word text)
Spells verb text (statement.Block name) = (verb ≡ codes "block") × IsWord name (word 0 text)
Spells verb text (statement.Item site) = (verb ≡ codes "item") × IsSite site text
Spells verb text (statement.Defined k site) =
    (verb ≡ kind_word k) × IsSite site text × IsRest k (after_site site text)
Spells verb text (statement.Variant name shape) =
    (verb ≡ codes "variant") × IsWord name (word 0 text) × (shape_of (word 1 text) ≡ Some shape)
Spells verb text (statement.LegacyMacro name at meant) =
    (verb ≡ codes "legacy-macro") × IsLegacy name at meant text
Spells verb text (statement.Use b full site) = (verb ≡ import_word b) × IsImport b full site text
Spells verb text (statement.ExternPrelude name within meant) =
    (verb ≡ codes "extern-prelude") × IsMeaning name within meant text
Spells verb text (statement.MacroUse name within meant) =
    (verb ≡ codes "macro-use") × IsMeaning name within meant text
Spells verb text (statement.Prelude at within) =
    (verb ≡ codes "prelude") × IsWord at (word 0 text) × (word 1 text ≡ codes "in") × IsWord within (word 2 text)
Spells verb text (statement.Path path asking) =
    (verb ≡ codes "path") × IsWord path (word 0 text) × MayAsk asking (after_word text)
Spells verb text (statement.Model name below) =
    (verb ≡ codes "model") × IsModel name below text

-- what is left after these words; one that may be missing counts
abbrev pub after_statement : Statement → List ℕ → List ℕ
after_statement (statement.Crate name edition) text = after_words 2 text
after_statement (statement.Module name vis) text = after_visibility vis (after_word text)
after_statement (statement.Block name) text = after_word text
after_statement (statement.Item site) text = after_site site text
after_statement (statement.Defined k site) text = after_kind k (after_site site text)
after_statement (statement.Variant name shape) text = after_words 2 text
after_statement (statement.LegacyMacro name at meant) text = after_going_on meant (after_words 3 text)
after_statement (statement.Use b full site) text = after_import site text
after_statement (statement.ExternPrelude name within meant) text = after_words 5 text
after_statement (statement.MacroUse name within meant) text = after_words 5 text
after_statement (statement.Prelude at within) text = after_words 3 text
after_statement (statement.Path path asking) text = after_asking asking (after_word text)
after_statement (statement.Model name below) text = after_going_on below (after_word text)

-- a line that is spelt so, and no word more
abbrev pub Spelt : List ℕ → Statement → Type 0
Spelt line s = Spells (word 0 line) (after_word line) s × Ends (after_statement s (after_word line))

-- the statement of a line and its first word, or none where it has no word
abbrev pub IsRead : List ℕ → Option (Word × Statement) → Type 0
IsRead line o = MatchOption o (Ends line) (λ p. IsWord p.0 (word 0 line) × Spelt line p.1)

-- a line that some statement is spelt by, or that has no word
abbrev pub IsReadable : List ℕ → Type 0
IsReadable line = (o : Option (Word × Statement)) × IsRead line o

-- whether it may stand below a model
abbrev pub stands_below_models : Statement → Bool
stands_below_models (statement.Defined k site) = true
stands_below_models (statement.Use b full site) = true
stands_below_models (statement.Path path asking) = true
stands_below_models (statement.Model name below) = true
stands_below_models s = false
