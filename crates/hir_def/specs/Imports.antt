-- What an entry keeps of its import.
use Rattle.std.specs.Prelude.{◌≡◌, ◌↔◌, Some, None, Option}
use Rattle.hir_def.specs.declared.import.ImportOrExternCrate.{ImportOrExternCrate}
use Rattle.hir_def.specs.declared.import.ImportOrExternCrate.TheVariants as wide
use Rattle.hir_def.specs.declared.import.ImportOrGlob.{ImportOrGlob}
use Rattle.hir_def.specs.declared.import.ImportOrGlob.TheVariants as narrow

-- what an entry of the values keeps of an import: an extern crate brings none
abbrev pub narrowed : Option ImportOrExternCrate → Option ImportOrGlob
narrowed None = None
narrowed (Some (wide.Glob g)) = Some (narrow.Glob g)
narrowed (Some (wide.Import i)) = Some (narrow.Import i)
narrowed (Some (wide.ExternCrate e)) = None

-- the import as an entry of any namespace keeps it
abbrev pub widened : Option ImportOrGlob → Option ImportOrExternCrate
widened None = None
widened (Some (narrow.Glob g)) = Some (wide.Glob g)
widened (Some (narrow.Import i)) = Some (wide.Import i)

-- an entry of the values has the import i exactly where i is what imported it
abbrev pub Narrows : Option ImportOrExternCrate → Option ImportOrGlob → Type 0
Narrows import kept = (i : ImportOrGlob) → (kept ≡ Some i) ↔ (import ≡ widened (Some i))
