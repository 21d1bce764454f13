-- Where a text stops being a path, and what is told of one that does not.
use Rattle.std.specs.Prelude.{ℕ, List, Some, None, Err, Option, Result}
use Rattle.hir_def.specs.declared.fault.TextFault.{TextFault}
use Rattle.hir_def.specs.declared.fault.TextFault.TheVariants.{BadText}
use Rattle.path_text.specs.declared.language.Before.TheVariants.{Nothing}
use Rattle.path_text.specs.Segments.{segments}
use Rattle.path_text.specs.Language.{stop}

abbrev pub stop_of : List ℕ → Option ℕ
stop_of text = stop Nothing (segments 0 text)

-- a text is refused where it stops being a path
abbrev pub unless_stopped : {A : Type 0} → Option ℕ → Result A TextFault → Result A TextFault
unless_stopped None r = r
unless_stopped (Some place) r = Err (BadText place)
