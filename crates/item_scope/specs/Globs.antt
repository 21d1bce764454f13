-- Which imports are globs.
use Rattle.std.specs.Prelude.{Bool, true, false, Some, None, Option}
use Rattle.hir_def.specs.declared.import.ImportOrExternCrate.{ImportOrExternCrate}
use Rattle.hir_def.specs.declared.import.ImportOrExternCrate.TheVariants as wide
use Rattle.hir_def.specs.declared.import.ImportOrGlob.{ImportOrGlob}
use Rattle.hir_def.specs.declared.import.ImportOrGlob.TheVariants as narrow

abbrev pub wide_glob : ImportOrExternCrate → Bool
wide_glob (wide.Glob g) = true
wide_glob (wide.Import i) = false
wide_glob (wide.ExternCrate e) = false

abbrev pub narrow_glob : ImportOrGlob → Bool
narrow_glob (narrow.Glob g) = true
narrow_glob (narrow.Import i) = false

-- anything but a glob brings an entry by name
abbrev pub by_glob : {M : Type 0} → (M → Bool) → Option M → Bool
by_glob glob None = false
by_glob glob (Some m) = glob m
