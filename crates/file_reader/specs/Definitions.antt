-- The statements that a file keeps of definitions and imports, each by its number among those that are counted with it.
use Rattle.std.specs.Prelude.{ℕ, List, [], ◌∷◌, ◌++◌, length, map, vec_items}
use Rattle.firmware.specs.declared.definition.Definition.{Definition}
use Rattle.firmware.specs.declared.definition.Standing.{Standing}
use Rattle.firmware.specs.declared.definitions.Definitions.{Definitions}
use Rattle.hir_def.specs.declared.ModuleDefId.{ModuleDefId}
use Rattle.item_scope.specs.declared.index_data.CallStyles.{CallStyles}
use Rattle.statements.specs.Kinds.{def_of}
use Rattle.statements.specs.declared.kinds.Bringing.{Bringing}
use Rattle.statements.specs.declared.kinds.Bringing.TheVariants as bringing
use Rattle.statements.specs.declared.kinds.ItemKind.{ItemKind}
use Rattle.statements.specs.declared.kinds.ItemKind.TheVariants as kind

-- a statement as it is kept: the full name around what it declares, the name of that, the line, and where it stands
pub record Kept : Type 0 where
  pub within : List ℕ
  pub name : List ℕ
  pub line : ℕ
  pub standing : Standing

abbrev pub kept : Definition → Kept
kept d = record { within = d.within.now; name = d.name.now; line = d.line; standing = d.standing }

-- all that are kept, as they are counted, and the items of a kind and new legacy macros in their order
pub record Counted : Type 0 where
  pub modules : List Kept
  pub enums : List Kept
  pub macros : List Kept
  pub others : List Kept
  pub imports : List Kept
  pub globs : List Kept
  pub extern_crates : List Kept
  pub of_a_kind : List ModuleDefId

abbrev pub counted : Definitions → Counted
counted d = record {
  modules = map kept (vec_items d.modules);
  enums = map kept (vec_items d.enums);
  macros = map kept (vec_items d.macros);
  others = map kept (vec_items d.others);
  imports = map kept (vec_items d.imports);
  globs = map kept (vec_items d.globs);
  extern_crates = map kept (vec_items d.extern_crates);
  of_a_kind = vec_items d.of_a_kind;
}

-- the definitions that are counted with those of a kind
abbrev pub defined_as : Counted → ItemKind → List Kept
defined_as c kind.Enum = c.enums
defined_as c (kind.Macro styles) = c.macros
defined_as c k = c.others

-- one more of a kind
abbrev pub keep : Counted → ItemKind → Kept → Counted
keep c kind.Enum d = record c { enums = c.enums ++ d ∷ [] }
keep c (kind.Macro styles) d = record c { macros = c.macros ++ d ∷ [] }
keep c k d = record c { others = c.others ++ d ∷ [] }

-- the item that is listed: a variant is none of its own
abbrev pub items_of : ItemKind → ℕ → List ModuleDefId
items_of (kind.Variant s) n = []
items_of k n = def_of k n ∷ []

-- one more of a kind, numbered by its turn among those that are counted with it, and listed by that number
abbrev pub define : Counted → ItemKind → Kept → Counted
define c k d = record (keep c k d) { of_a_kind = c.of_a_kind ++ items_of k (length (defined_as c k)) }

-- how a macro may be called
abbrev pub styles_of : ItemKind → List CallStyles
styles_of (kind.Macro styles) = styles ∷ []
styles_of k = []

-- the imports by the same word
abbrev pub imports_of : Counted → Bringing → List Kept
imports_of c bringing.Named = c.imports
imports_of c bringing.Glob = c.globs
imports_of c bringing.ExternCrate = c.extern_crates

-- one import more
abbrev pub keep_import : Counted → Bringing → Kept → Counted
keep_import c bringing.Named d = record c { imports = c.imports ++ d ∷ [] }
keep_import c bringing.Glob d = record c { globs = c.globs ++ d ∷ [] }
keep_import c bringing.ExternCrate d = record c { extern_crates = c.extern_crates ++ d ∷ [] }
