-- The texts of layers, and of refusals as numbers.
use Rattle.std.specs.Prelude.{ℕ, List, ◌++◌, codes, decimal}
use Rattle.hir_def.specs.declared.fault.Layer.{Layer}
use Rattle.hir_def.specs.declared.fault.Layer.TheVariants.{Text, Path, Tree, Index}
use Rattle.hir_def.specs.declared.fault.FaultCode.{FaultCode}

abbrev pub layer_text : Layer → List ℕ
layer_text Text = codes "text"
layer_text Path = codes "path"
layer_text Tree = codes "tree"
layer_text Index = codes "index"

abbrev pub code_text : FaultCode → List ℕ
code_text c = layer_text c.layer ++ codes " " ++ decimal c.number ++ codes " " ++ decimal c.place
