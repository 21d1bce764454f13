-- What each statement adds to what a file tells.
use Rattle.std.specs.Prelude.{◌≡◌, ℕ, true, false, List, [], ◌∷◌, ◌++◌, length, Option, Some, None, Ok}
use Rattle.std.specs.BTreeMap.{Updates}
use Rattle.std.specs.Cmp.Lexicographic.{slice_cmp}
use Rattle.std.specs.Str.{IsUtf8}
use Rattle.std.specs.Ordering.{nat_cmp}
use Rattle.entries.specs.Entries.{of_macros, of_types}
use Rattle.entries.specs.declared.per_ns.PerNs.{PerNs}
use Rattle.entries.specs.declared.visibility.Visibility.{Visibility}
use Rattle.entries.specs.declared.visibility.Visibility.TheVariants.{Public}
use Rattle.file_reader.specs.Definitions.{Kept, define, defined_as, imports_of, keep_import, styles_of}
use Rattle.file_reader.specs.FullNames.{DeclaresAs, declared_above, enum_meant, imported, macro_meant}
use Rattle.file_reader.specs.Models.{model_by_name, pile_of}
use Rattle.file_reader.specs.Refusals.{IsListable, IsRowNumber}
use Rattle.file_reader.specs.Named.{crate_of, known_of, map_of, module_of, Tells}
use Rattle.file_reader.specs.Told.{DeliveryTold, ItemTold, Modules, Told, with_row}
use Rattle.file_reader.specs.declared.reader.Known.{Known}
use Rattle.firmware.specs.declared.definition.Standing.{Standing}
use Rattle.firmware.specs.declared.definition.Standing.TheVariants.{Apart, Place, Variant}
use Rattle.firmware.specs.declared.models.Mark.{Mark}
use Rattle.firmware.specs.declared.models.Model.{Model}
use Rattle.hir_def.specs.declared.BlockId.{BlockId}
use Rattle.hir_def.specs.declared.CrateId.{CrateId}
use Rattle.hir_def.specs.declared.EnumId.{EnumId}
use Rattle.hir_def.specs.declared.MacroId.{MacroId}
use Rattle.hir_def.specs.declared.ModuleDefId.TheVariants as def
use Rattle.hir_def.specs.declared.ModuleId.{ModuleId}
use Rattle.hir_def.specs.declared.Name.{Name}
use Rattle.hir_def.specs.declared.edition.Edition.{Edition}
use Rattle.hir_def.specs.declared.import.ImportOrExternCrate.{ImportOrExternCrate}
use Rattle.item_scope.specs.declared.index_data.CallStyles.{CallStyles}
use Rattle.item_scope.specs.declared.index_data.DefMapId.{DefMapId}
use Rattle.item_scope.specs.declared.index_data.DefMapId.TheVariants as map_id
use Rattle.item_scope.specs.declared.index_data.EnumVariant.{EnumVariant}
use Rattle.nameres.specs.declared.tree_rows.ModuleRow.{ModuleRow}
use Rattle.path_resolution.specs.declared.question.Question.{Question}
use Rattle.path_text.specs.Lists.{Grows, as_name, first}
use Rattle.source_text.specs.declared.words.Word.{Word}
use Rattle.statements.specs.declared.asking.Asking.{Asking}
use Rattle.statements.specs.Names.{Parts}
use Rattle.statements.specs.declared.clauses.RawVisibility.{RawVisibility}
use Rattle.statements.specs.declared.clauses.Site.{Site}
use Rattle.statements.specs.declared.kinds.Bringing.{Bringing}
use Rattle.statements.specs.declared.kinds.ItemKind.{ItemKind}
use Rattle.statements.specs.declared.kinds.ItemKind.TheVariants as kind
use Rattle.statements.specs.declared.kinds.Shape.{Shape}
use Rattle.statements.specs.declared.statement.Statement.{Statement}
use Rattle.statements.specs.declared.statement.Statement.TheVariants as statement
use Rattle.statements.specs.Kinds.{entries_of, has_constructor, import_of, with_visibility}

-- what is asked of a path: by the module that is named, with the options that are told; nothing where nobody asks
abbrev pub Asks : Modules → Option Asking → Option Question → Type 0
Asks above None q = q ≡ None
Asks above (Some a) q =
    (at : Known) × (known_of above a.«module».text.now ≡ Some at)
    × (q ≡ Some (record { mode = a.mode; original_module = at.id; shadow = a.shadow; expected_macro_subns = a.expected }))

-- a path, and beside it its question
abbrev pub AddsPath : Told → Word → Option Asking → Told → Type 0
AddsPath old path asking new =
    (q : Option Question) × Asks old.above asking q
    × (new ≡ record old { paths = old.paths ++ path ∷ []; questions = old.questions ++ q ∷ [] })

-- A name that may be listed comes into the list of names, where it is not in it, and has that number there.
abbrev pub Lists : Told → List ℕ → Name → Told → Type 0
Lists old w n new = IsListable w × Grows old.names w new.names × (as_name (first new.names w 0) ≡ Some n)

-- a delivery to a module, under the number of a name, of these entries, under that import
abbrev pub delivering : ModuleId → Word → Name → Word → PerNs → Option ImportOrExternCrate → DeliveryTold
delivering m name n within e i = record {
  delivery = record { receiver = m; name = n; entries = e; import = i };
  name = name.text.now;
  within = within.text.now;
  line = name.line;
}

-- An item or an import stands in a module that is declared above, by a full name that is text, and its visibility is told there.
abbrev pub Stands : Modules → Site → Known → Visibility → Type 0
Stands above s at v =
    (known_of above s.«module».text.now ≡ Some at) × IsUtf8 s.«module».text.now × Tells above at s.vis v

-- the item of a site
abbrev pub item_of : Site → Visibility → ItemTold
item_of s v = record { name = s.name.text.now; within = s.«module».text.now; vis = v }

-- an item of a module
abbrev pub AddsItem : Told → Site → Known → Visibility → Name → Told → Type 0
AddsItem old s at v n new =
    Stands old.above s at v × Lists old s.name.text.now n new
    × (new ≡ record old { names = new.names; items = old.items ++ item_of s v ∷ [] })

-- the statement of a name within what is named
abbrev pub stated : Word → Word → Standing → Kept
stated within name standing = record { within = within.text.now; name = name.text.now; line = name.line; standing = standing }

-- An item of a kind is delivered to the module in which it stands, under its name, and declared with its full name. It is what its kind and its turn make of it, as visible as is told.
abbrev pub AddsDefinition : Told → ItemKind → Site → Told → Type 0
AddsDefinition old k s new =
    (at : Known) × (v : Visibility) × (n : Name) × (e : PerNs)
    × Stands old.above s at v
    × Lists old s.name.text.now n new
    × IsRowNumber (length (defined_as old.definitions k))
    × (e ≡ entries_of k (length (defined_as old.definitions k)) v)
    × DeclaresAs old s.«module».text s.name.text e new
    × (new ≡ record old {
      names = new.names;
      declared = new.declared;
      items = old.items ++ item_of s v ∷ [];
      definitions = define old.definitions k (stated s.«module» s.name Place);
      delivered = old.delivered ++ delivering at.id s.name n s.«module» e None ∷ [];
      styles = old.styles ++ styles_of k;
    })

-- what stands before the last `::` of a full name, and the name after it, in the same line
abbrev pub IsSplit : Word → Word → Word → Type 0
IsSplit full outer name = Parts full.text.now (Ok (outer, name)) × (outer.line ≡ full.line) × (name.line ≡ full.line)

-- A module may come in where none of its full name is declared above, the name is text, and its number has 32 bits.
abbrev pub MayDeclare : Told → Word → Type 0
MayDeclare old w = (known_of old.above w.text.now ≡ None) × IsUtf8 w.text.now × IsRowNumber (length old.modules)

-- A module is numbered by its turn. It is declared above from then on, by its full name, and nothing else is.
abbrev pub Declares : Told → Word → ModuleRow → Option DefMapId → ModuleId → Told → Type 0
Declares old w row root id new =
    (id.0 ≡ length old.modules)
    × MayDeclare old w
    × Updates (λ a b. slice_cmp nat_cmp a.now b.now) old.above new.above w.text (Some (record { id = id; krate = row.krate; block = row.block; root_of = root }))

-- one module more, by its full name, its row and its statement
abbrev pub with_module : Told → Word → ModuleRow → Kept → Told
with_module old w row d = record old {
  full_names = old.full_names ++ w.text.now ∷ [];
  modules = old.modules ++ row ∷ [];
  definitions = record old.definitions { modules = old.definitions.modules ++ d ∷ [] };
}

-- a module is delivered to the one around it; the root of a crate or a block stands apart
abbrev pub standing_of : Option DefMapId → Standing
standing_of None = Place
standing_of (Some m) = Apart

-- a module of a row
abbrev pub AddsModule : Told → Word → Kept → ModuleRow → Option DefMapId → ModuleId → Told → Type 0
AddsModule old w d row root id new = Declares old w row root id new × (new ≡ record (with_module old w row d) { above = new.above })

-- A crate has a root of its own.
abbrev pub AddsCrate : Told → Word → Edition → Told → Type 0
AddsCrate old w edition new =
    (root : ModuleId) × (row : ModuleRow) × (c : CrateId)
    × IsListable w.text.now × Grows old.names w.text.now new.names
    × IsRowNumber (length old.crates)
    × (c.0 ≡ length old.crates)
    × (row ≡ record { krate = c; block = None; parent = None })
    × Declares old w row (Some (map_id.Crate c)) root new
    × (new ≡ record (with_module old w row (record { within = []; name = w.text.now; line = w.line; standing = Apart })) {
      names = new.names;
      above = new.above;
      crates = old.crates ++ record { root = root; edition = edition } ∷ [];
    })

-- the module before the last `::` of a full name, and the name after it
abbrev pub IsAround : Modules → Word → Word → Word → Known → Type 0
IsAround above w outer name around =
    IsSplit w outer name × IsUtf8 outer.text.now × (known_of above outer.text.now ≡ Some around)

-- A module stands in the crate and the block of the one around it, and is delivered to it and declared in it, as visible as is told.
abbrev pub AddsInner : Told → Word → RawVisibility → Told → Type 0
AddsInner old w raw new =
    (outer : Word) × (name : Word) × (parent : Known) × (vis : Visibility) × (id : ModuleId) × (row : ModuleRow) × (n : Name) × (e : PerNs)
    × IsAround old.above w outer name parent
    × Lists old name.text.now n new
    × Tells old.above parent raw vis
    × (row ≡ record { krate = parent.krate; block = parent.block; parent = Some parent.id })
    × Declares old w row None id new
    × (e ≡ of_types (def.ModuleId id) vis None)
    × DeclaresAs old outer.text name.text e new
    × (new ≡ record (with_module old w row (stated outer name Place)) {
      names = new.names;
      above = new.above;
      declared = new.declared;
      delivered = old.delivered ++ delivering parent.id name n outer e None ∷ [];
    })

-- A block stands in the module around it, and has a root of its own, in that module's crate.
abbrev pub AddsBlock : Told → Word → Told → Type 0
AddsBlock old w new =
    (outer : Word) × (name : Word) × (around : Known) × (root : ModuleId) × (row : ModuleRow) × (b : BlockId)
    × IsAround old.above w outer name around
    × IsListable name.text.now × Grows old.names name.text.now new.names
    × IsRowNumber (length old.blocks)
    × (b.0 ≡ length old.blocks)
    × (row ≡ record { krate = around.krate; block = Some b; parent = None })
    × Declares old w row (Some (map_id.Block b)) root new
    × (new ≡ record (with_module old w row (stated outer name Apart)) {
      names = new.names;
      above = new.above;
      blocks = old.blocks ++ record { root = root; outside = around.id } ∷ [];
    })

-- a name in the extern prelude of a crate, which means the root of a crate there
abbrev pub AddsExternPrelude : Told → Word → Word → Word → Told → Type 0
AddsExternPrelude old name krate meant new =
    (n : Name) × (of : CrateId × ModuleId) × (to : CrateId × ModuleId)
    × Lists old name.text.now n new
    × (crate_of old.above krate.text.now ≡ Some of)
    × (crate_of old.above meant.text.now ≡ Some to)
    × (new ≡ record old {
      names = new.names;
      extern_prelude = with_row old.extern_prelude (record { krate = of.0; name = n }) (record { «module» = to.1; extern_crate = None }) name;
    })

-- a name in the macro-use prelude of a crate or a block, which means a macro that is declared above
abbrev pub AddsMacroUse : Told → Word → Word → Word → Told → Type 0
AddsMacroUse old name of meant new =
    (n : Name) × (m : DefMapId) × (d : MacroId)
    × Lists old name.text.now n new
    × (map_of old.above of.text.now ≡ Some m)
    × (macro_meant (declared_above old) meant.text.now ≡ Some d)
    × (new ≡ record old {
      names = new.names;
      macro_use = with_row old.macro_use (record { map = m; name = n }) (record { def = d; extern_crate = None }) name;
    })

-- the prelude of a crate or a block
abbrev pub AddsPrelude : Told → Word → Word → Told → Type 0
AddsPrelude old m of new =
    (prelude : ModuleId) × (d : DefMapId)
    × (module_of old.above m.text.now ≡ Some prelude)
    × (map_of old.above of.text.now ≡ Some d)
    × (new ≡ record old { preludes = with_row old.preludes d prelude m })

-- called as `m!()`, and in no other way
abbrev pub by_bang : CallStyles
by_bang = record { fn_like = true; attr = false; derive = false }

-- A `macro_rules!` macro is a macro more, that its name means in its module. It is declared with its full name, and delivered nowhere.
abbrev pub AddsLegacy : Told → Word → Word → Told → Type 0
AddsLegacy old name m new =
    (at : ModuleId) × (n : Name) × (d : MacroId)
    × (module_of old.above m.text.now ≡ Some at)
    × IsUtf8 m.text.now × IsRowNumber (length old.definitions.macros)
    × Lists old name.text.now n new
    × (d.0 ≡ length old.definitions.macros)
    × DeclaresAs old m.text name.text (of_macros d Public None) new
    × (new ≡ record old {
      names = new.names;
      declared = new.declared;
      definitions = define old.definitions (kind.Macro by_bang) (stated m name Apart);
      legacy = with_row old.legacy (record { at = at; name = n }) d name;
      styles = old.styles ++ by_bang ∷ [];
    })

-- a name, in that module, of a macro that is declared above
abbrev pub AddsLegacyOf : Told → Word → Word → Word → Told → Type 0
AddsLegacyOf old name m meant new =
    (at : ModuleId) × (n : Name) × (d : MacroId)
    × (module_of old.above m.text.now ≡ Some at)
    × Lists old name.text.now n new
    × (macro_meant (declared_above old) meant.text.now ≡ Some d)
    × (new ≡ record old { names = new.names; legacy = with_row old.legacy (record { at = at; name = n }) d name })

-- An import makes one more delivery, to the module where it stands, under the name that it has there. Its import is numbered by the
-- statement's turn among those of its word, and all that it brings is as visible as the statement tells.
abbrev pub AddsImport : Told → Bringing → Word → Site → Told → Type 0
AddsImport old b full s new =
    (at : Known) × (v : Visibility) × (e : PerNs) × (n : Name)
    × Stands old.above s at v
    × Lists old s.name.text.now n new
    × (imported (declared_above old) b full.text.now ≡ Some e)
    × IsRowNumber (length (imports_of old.definitions b))
    × (new ≡ record old {
      names = new.names;
      definitions = keep_import old.definitions b (stated s.«module» s.name Place);
      delivered = old.delivered ++ delivering at.id s.name n s.«module» (with_visibility v e) (Some (import_of b (length (imports_of old.definitions b)))) ∷ [];
    })

-- A variant is of the enum that its full name begins with. It is numbered by its turn among all that are counted with it. It is declared with its full name, and delivered nowhere.
abbrev pub AddsVariant : Told → Word → Shape → Told → Type 0
AddsVariant old w shape new =
    (outer : Word) × (name : Word) × (of : EnumId) × (n : Name) × (v : EnumVariant)
    × IsSplit w outer name
    × IsUtf8 outer.text.now × IsRowNumber (length old.definitions.others)
    × Lists old name.text.now n new
    × (enum_meant (declared_above old) outer.text.now ≡ Some of)
    × (v ≡ record { variant = record { 0 = length old.definitions.others }; has_constructor = has_constructor shape })
    × DeclaresAs old outer.text name.text (entries_of (kind.Variant shape) v.variant.0 Public) new
    × (new ≡ record old {
      names = new.names;
      declared = new.declared;
      definitions = define old.definitions (kind.Variant shape) (stated outer name (Variant of));
      variants = with_row old.variants (record { of = of; name = n }) v w;
    })

-- how many deliveries, paths, and items of a kind or new legacy macros are told
abbrev pub reached : Told → Mark
reached t = record { deliveries = length t.delivered; paths = length t.paths; items = length t.definitions.of_a_kind }

-- A model of that name begins a part of the file. It is the only one of its name, by which it is found from then on. It stands alone, or over the model that is named.
abbrev pub AddsModel : Told → Word → Option Word → Told → Type 0
AddsModel old w below new =
    (m : Model) × (m.name.now ≡ w.text.now) × (m.line ≡ w.line) × (m.began ≡ reached old)
    × IsUtf8 w.text.now
    × (model_by_name old.model_numbers w.text.now ≡ None)
    × (pile_of old.model_numbers old.models below (length old.models) ≡ Some m.pile)
    × Updates (λ a b. slice_cmp nat_cmp a.now b.now) old.model_numbers new.model_numbers w.text (Some (length old.models))
    × (new ≡ record old { models = old.models ++ m ∷ []; model_numbers = new.model_numbers })

-- what a statement adds
abbrev pub Adds : Statement → Told → Told → Type 0
Adds (statement.Crate name edition) old new = AddsCrate old name edition new
Adds (statement.Module name vis) old new = AddsInner old name vis new
Adds (statement.Block name) old new = AddsBlock old name new
Adds (statement.Item s) old new = (at : Known) × (v : Visibility) × (n : Name) × AddsItem old s at v n new
Adds (statement.Defined k s) old new = AddsDefinition old k s new
Adds (statement.Variant name shape) old new = AddsVariant old name shape new
Adds (statement.LegacyMacro name within None) old new = AddsLegacy old name within new
Adds (statement.LegacyMacro name within (Some meant)) old new = AddsLegacyOf old name within meant new
Adds (statement.Use b full s) old new = AddsImport old b full s new
Adds (statement.ExternPrelude name krate meant) old new = AddsExternPrelude old name krate meant new
Adds (statement.MacroUse name of meant) old new = AddsMacroUse old name of meant new
Adds (statement.Prelude prelude of) old new = AddsPrelude old prelude of new
Adds (statement.Path text asking) old new = AddsPath old text asking new
Adds (statement.Model name below) old new = AddsModel old name below new
