-- The rows that the words of a line say. All numbers are below 2^32.
use Rattle.std.specs.Prelude.{◌≡◌, ℕ, Bool, true, false, List, [], ◌∷◌, codes}
use Rattle.std.specs.Option.{option_map}
use Rattle.hir_def.specs.declared.MacroId.{MacroId}
use Rattle.hir_def.specs.declared.ModuleId.{ModuleId}
use Rattle.index_tables.specs.declared.keys.CrateName.{CrateName}
use Rattle.index_tables.specs.declared.keys.EnumName.{EnumName}
use Rattle.index_tables.specs.declared.keys.MapName.{MapName}
use Rattle.index_tables.specs.declared.keys.ModuleName.{ModuleName}
use Rattle.item_scope.specs.declared.index_data.DefMapId.{DefMapId}
use Rattle.item_scope.specs.declared.index_data.EnumVariant.{EnumVariant}
use Rattle.item_scope.specs.declared.index_data.ExternPrelude.{ExternPrelude}
use Rattle.item_scope.specs.declared.index_data.MacroUse.{MacroUse}
use Rattle.keyed.specs.declared.row.Row.{Row}
use Rattle.nameres.specs.declared.tree_rows.BlockRow.{BlockRow}
use Rattle.nameres.specs.declared.tree_rows.ModuleRow.{ModuleRow}
use Rattle.world_commands.specs.Words.{IsNumber, IsOptional, IsMap}
use Rattle.world_lines.specs.declared.tables.Make.{Make}
use Rattle.world_lines.specs.declared.tables.Make.TheVariants.{Table, Ledger}

-- a module's crate, block and parent
abbrev pub IsModuleRow : ModuleRow → List (List ℕ) → Type 0
IsModuleRow r (krate ∷ block ∷ parent ∷ []) =
    IsNumber r.krate.0 krate × IsOptional (option_map (λ b. b.0) r.block) block × IsOptional (option_map (λ m. m.0) r.parent) parent
IsModuleRow r _ = ⊥

-- a block's root, and the module that it stands in
abbrev pub IsBlockRow : BlockRow → List (List ℕ) → Type 0
IsBlockRow r (root ∷ outside ∷ []) = IsNumber r.root.0 root × IsNumber r.outside.0 outside
IsBlockRow r _ = ⊥

abbrev pub IsMake : Make → List ℕ → Type 0
IsMake Table w = w ≡ codes "table"
IsMake Ledger w = w ≡ codes "ledger"

-- a crate and a name, the module that it means, and the `extern crate` that brought it
abbrev pub IsExternRow : Row CrateName ExternPrelude → List (List ℕ) → Type 0
IsExternRow r (krate ∷ name ∷ module_word ∷ by ∷ []) =
    IsNumber r.key.krate.0 krate × IsNumber r.key.name.0 name × IsNumber r.value.module.0 module_word × IsOptional (option_map (λ x. x.0) r.value.extern_crate) by
IsExternRow r _ = ⊥

-- a map and a name, the macro that it means, and the `extern crate` that brought it
abbrev pub IsMacroUseRow : Row MapName MacroUse → List (List ℕ) → Type 0
IsMacroUseRow r (of ∷ name ∷ def ∷ by ∷ []) =
    IsMap r.key.map of × IsNumber r.key.name.0 name × IsNumber r.value.def.0 def × IsOptional (option_map (λ x. x.0) r.value.extern_crate) by
IsMacroUseRow r _ = ⊥

-- a map and its prelude's module
abbrev pub IsPreludeRow : Row DefMapId ModuleId → List (List ℕ) → Type 0
IsPreludeRow r (of ∷ prelude ∷ []) = IsMap r.key of × IsNumber r.value.0 prelude
IsPreludeRow r _ = ⊥

-- a module and a name, and the macro that it means
abbrev pub IsLegacyRow : Row ModuleName MacroId → List (List ℕ) → Type 0
IsLegacyRow r (at ∷ name ∷ def ∷ []) = IsNumber r.key.at.0 at × IsNumber r.key.name.0 name × IsNumber r.value.0 def
IsLegacyRow r _ = ⊥

-- whether a variant has a value constructor
abbrev pub IsFlag : Bool → List ℕ → Type 0
IsFlag false w = w ≡ codes "0"
IsFlag true w = w ≡ codes "1"

-- an enum and a name, the variant that it means, and whether that has a value constructor
abbrev pub IsVariantRow : Row EnumName EnumVariant → List (List ℕ) → Type 0
IsVariantRow r (of ∷ name ∷ variant ∷ constructor ∷ []) =
    IsNumber r.key.of.0 of × IsNumber r.key.name.0 name × IsNumber r.value.variant.0 variant × IsFlag r.value.has_constructor constructor
IsVariantRow r _ = ⊥
