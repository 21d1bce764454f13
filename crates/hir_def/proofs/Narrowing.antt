-- What an entry of the values keeps of its import.
use Rattle.std.proofs.Common.{Some, None, Option, arith}
use Rattle.hir_def.specs.declared.import.ImportOrExternCrate.{ImportOrExternCrate}
use Rattle.hir_def.specs.declared.import.ImportOrExternCrate.TheVariants as wide
use Rattle.hir_def.specs.declared.import.ImportOrGlob.TheVariants as narrow
use Rattle.hir_def.specs.Imports.{narrowed, Narrows}

pub narrows : (import : Option ImportOrExternCrate) → Narrows import (narrowed import)
narrows None (narrow.Glob h) = grind arith
narrows None (narrow.Import j) = grind arith
narrows (Some (wide.Glob g)) (narrow.Glob h) = grind arith
narrows (Some (wide.Glob g)) (narrow.Import j) = grind arith
narrows (Some (wide.Import i)) (narrow.Glob h) = grind arith
narrows (Some (wide.Import i)) (narrow.Import j) = grind arith
narrows (Some (wide.ExternCrate e)) (narrow.Glob h) = grind arith
narrows (Some (wide.ExternCrate e)) (narrow.Import j) = grind arith
