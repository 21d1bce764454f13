-- A path asked in a module, from block roots in their outside modules, and last in the crate's preludes.
use Rattle.std.specs.Prelude.{false, if◌then◌else◌, List, Some, None, Option}
use Rattle.std.specs.List.{fold}
use Rattle.hir_def.specs.declared.BlockId.{BlockId}
use Rattle.hir_def.specs.declared.ModuleId.{ModuleId}
use Rattle.hir_def.specs.declared.Name.{Name}
use Rattle.nameres.specs.Shapes.{block_exit}
use Rattle.path_text.specs.declared.mod_path.PathKind.{PathKind}
use Rattle.entries.specs.Visibilities.{chain_of, settled}
use Rattle.item_scope.specs.Views.{View}
use Rattle.path_resolution.specs.declared.answer.ReachedFixedPoint.TheVariants.{No}
use Rattle.path_resolution.specs.declared.answer.ResolvePathResult.{ResolvePathResult as Answer}
use Rattle.path_resolution.specs.declared.question.Question.{Question}
use Rattle.path_resolution.specs.declared.single.Asked.{Asked}
use Rattle.path_resolution.specs.Answers.{empty, merged}
use Rattle.path_resolution.specs.Singles.{single_of, preludes_of}

abbrev pub unasked : Asked
unasked = record { answer = empty No; is_final = false }

abbrev pub joined_to : Asked → Asked → Asked
joined_to a b = record { answer = merged a.answer b.answer; is_final = b.is_final }

-- one more module, unless the answer is final
abbrev pub turn : View → Question → PathKind → List Name → Asked → ModuleId → Asked
turn v q k ns a m = if a.is_final then a else joined_to a (single_of v q k ns m)

-- the last question, from the root of the block in which the last module asked stands
abbrev pub with_preludes : View → Question → PathKind → List Name → Option BlockId → Asked → Answer
with_preludes v q k ns None a = a.answer
with_preludes v q k ns (Some b) a =
    if a.is_final then a.answer else merged a.answer (preludes_of v q k ns (v.fixed.tree.block_root b))

-- what is asked after an answer: the module m, the modules outward from block roots, the preludes
unfoldable pub outward_from : View → Question → PathKind → List Name → Asked → ModuleId → Answer
outward_from v q k ns a m =
    let t = v.fixed.tree in
    with_preludes v q k ns (t.block_of (settled t m)) (fold (turn v q k ns) a (chain_of t (block_exit t) m))

-- the path asked in the module m
abbrev pub outward : View → Question → PathKind → List Name → ModuleId → Answer
outward v q k ns m = outward_from v q k ns unasked m
