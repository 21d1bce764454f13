-- What a word of a line says: a value that is written so. All numbers are below 2^32.
use Rattle.std.specs.Prelude.{◌≡◌, ℕ, ◌<◌, ◌^◌, ◌==◌, ◌&&◌, ◌||◌, not, Bool, true, false, if◌then◌else◌, List, [], ◌∷◌, ◌++◌, length, codes, decimal, Option, Some, None, MatchOption}
use Rattle.std.specs.Borrow.{Bor}
use Rattle.std.specs.List.{list_all, list_any, slice_split}
use Rattle.std.specs.Option.{option_map}
use Rattle.std.specs.Result.{result_ok}
use Rattle.std.specs.Str.{bytes_eq}
use Rattle.source_text.specs.Words.{lacks}
use Rattle.hex.specs.Hex.{decode_of}
use Rattle.hir_def.specs.Imports.{narrowed}
use Rattle.hir_def.specs.declared.ModuleDefId.{ModuleDefId}
use Rattle.hir_def.specs.declared.import.ImportOrExternCrate.{ImportOrExternCrate}
use Rattle.hir_def.specs.declared.import.ImportOrExternCrate.TheVariants as wide
use Rattle.entries.specs.declared.visibility.Visibility.{Visibility}
use Rattle.entries.specs.declared.visibility.Visibility.TheVariants.{Module, PubCrate, Public}
use Rattle.item_scope.specs.declared.index_data.CallStyles.{CallStyles}
use Rattle.item_scope.specs.declared.index_data.DefMapId.{DefMapId}
use Rattle.item_scope.specs.declared.index_data.DefMapId.TheVariants.{Block, Crate}
use Rattle.item_scope.specs.Views.{Types, Values, Macros}
use Rattle.world_commands.specs.EntryTexts.{def_kind, def_number, visibility_text, import_text, entry_text}
use Rattle.entries.specs.Entries.{macro_entry}

-- what a word is read as: the value that it says, if it says one
abbrev pub ReadAs : {A B : Type 0} → (A → B → Type 0) → B → Option A → Type 0
ReadAs {A = A} Says w o = MatchOption o ((v : A) → ¬ (Says v w)) (λ v. Says v w)

-- a text is cut at the first such byte, or has none
abbrev pub Cuts : ℕ → List ℕ → Option (Bor (List ℕ) × Bor (List ℕ)) → Type 0
Cuts c w o = MatchOption o ((x y : List ℕ) → ¬ (w ≡ x ++ c ∷ y)) (λ p. (lacks c p.0.now ≡ true) × (w ≡ p.0.now ++ c ∷ p.1.now))

-- the parts of a text between such bytes
abbrev pub parts_of : ℕ → List ℕ → List (List ℕ)
parts_of c w = slice_split (λ b. b == c) w

-- numbers are below 2^32
abbrev pub IsNumber : ℕ → List ℕ → Type 0
IsNumber n w = (n < 2 ^ 32) × (w ≡ decimal n)

abbrev pub IsOptional : Option ℕ → List ℕ → Type 0
IsOptional None w = w ≡ codes "-"
IsOptional (Some n) w = IsNumber n w

abbrev pub IsMap : DefMapId → List ℕ → Type 0
IsMap (Block b) w = (b.0 < 2 ^ 32) × (w ≡ codes "b" ++ decimal b.0)
IsMap (Crate c) w = (c.0 < 2 ^ 32) × (w ≡ codes "c" ++ decimal c.0)

-- whether a word has that letter
abbrev pub has : ℕ → List ℕ → Bool
has letter w = list_any (λ b. b == letter) w

-- whether a word has letters, and each is `f`, `a` or `d`
abbrev pub is_styles : List ℕ → Bool
is_styles w = not (length w == 0) && list_all (λ b. b == 102 || (b == 97 || b == 100)) w

-- the letters that a word has, which are `f`, `a` and `d`, or none where it is `-`
abbrev pub styles_of : List ℕ → Option CallStyles
styles_of w =
    if bytes_eq w (codes "-") then Some (record { fn_like = false; attr = false; derive = false })
    else if is_styles w then Some (record { fn_like = has 102 w; attr = has 97 w; derive = has 100 w })
    else None

-- the bytes of one pair of hexadecimal digits or more, or none where the word is `-`
abbrev pub bytes_of : List ℕ → Option (List ℕ)
bytes_of w =
    if bytes_eq w (codes "-") then Some []
    else if length w == 0 then None
    else result_ok (decode_of w)

abbrev pub FitsVisibility : Visibility → Type 0
FitsVisibility Public = Unit {0}
FitsVisibility (PubCrate c) = c.0 < 2 ^ 32
FitsVisibility (Module m mark) = m.0 < 2 ^ 32

-- a word that a visibility is written as
abbrev pub IsVisibility : Visibility → List ℕ → Type 0
IsVisibility v w = FitsVisibility v × (w ≡ visibility_text v)

-- a def by its kind and its number
abbrev pub IsDefOf : ℕ → ModuleDefId → List ℕ → Type 0
IsDefOf n d kind = (kind ≡ def_kind d) × (n ≡ def_number d)

abbrev pub IsDef : ModuleDefId → List ℕ → Type 0
IsDef d w = (def_number d < 2 ^ 32) × (w ≡ def_kind d ++ codes ":" ++ decimal (def_number d))

abbrev pub FitsImport : Option ImportOrExternCrate → Type 0
FitsImport None = Unit {0}
FitsImport (Some (wide.Glob g)) = g.0 < 2 ^ 32
FitsImport (Some (wide.Import i)) = i.0 < 2 ^ 32
FitsImport (Some (wide.ExternCrate x)) = x.0 < 2 ^ 32

unfoldable pub IsImport : Option ImportOrExternCrate → List ℕ → Type 0
IsImport i w = FitsImport i × (w ≡ import_text i)

-- an entry is read where it is written so
unfoldable pub IsEntry : Types → List ℕ → Type 0
IsEntry it w = (def_number it.def < 2 ^ 32) × FitsVisibility it.vis × FitsImport it.import × (w ≡ entry_text (Some it))

unfoldable pub IsTypes : Option Types → List ℕ → Type 0
IsTypes None w = w ≡ codes "-"
IsTypes (Some it) w = IsEntry it w

-- an entry of the values keeps no import by an extern crate
abbrev pub value_of : Types → Values
value_of it = record { def = it.def; vis = it.vis; import = narrowed it.import }

unfoldable pub IsValues : Option Values → List ℕ → Type 0
IsValues o w = (t : Option Types) × IsTypes t w × (o ≡ option_map value_of t)

unfoldable pub IsMacros : Option Macros → List ℕ → Type 0
IsMacros o w = IsTypes (option_map macro_entry o) w
