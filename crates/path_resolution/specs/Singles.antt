-- A path asked in one module, and in the preludes of a crate.
use Rattle.std.specs.Prelude.{Bool, true, false, if◌then◌else◌, ◌&&◌, ◌||◌, List, [], ◌∷◌, is_some, Some, None, Option}
use Rattle.hir_def.specs.declared.CrateId.{CrateId}
use Rattle.hir_def.specs.declared.edition.Edition.{Edition}
use Rattle.hir_def.specs.declared.edition.Edition.TheVariants.{Edition2015}
use Rattle.hir_def.specs.declared.ModuleId.{ModuleId}
use Rattle.hir_def.specs.declared.Name.{Name}
use Rattle.path_text.specs.declared.mod_path.PathKind.{PathKind}
use Rattle.path_text.specs.declared.mod_path.PathKind.TheVariants.{Plain, Super, Crate, Abs, DollarCrate}
use Rattle.entries.specs.declared.per_ns.PerNs.{PerNs}
use Rattle.entries.specs.Entries.{is_nothing}
use Rattle.item_scope.specs.contracts.index_data.DefMapIdPartialEq.TheImpl.{eq-value as same_map}
use Rattle.item_scope.specs.Views.{View}
use Rattle.path_resolution.specs.declared.answer.ReachedFixedPoint.TheVariants.{Yes, No}
use Rattle.path_resolution.specs.declared.answer.ResolvePathResult.{ResolvePathResult as Answer}
use Rattle.path_resolution.specs.declared.question.BuiltinShadowMode.{BuiltinShadowMode}
use Rattle.path_resolution.specs.declared.question.BuiltinShadowMode.TheVariants as shadow
use Rattle.path_resolution.specs.declared.question.ResolveMode.{ResolveMode}
use Rattle.path_resolution.specs.declared.question.ResolveMode.TheVariants as mode
use Rattle.path_resolution.specs.declared.question.Question.{Question}
use Rattle.path_resolution.specs.declared.single.Asked.{Asked}
use Rattle.path_resolution.specs.Answers.{empty, merged}
use Rattle.path_resolution.specs.Sources.{from_module, from_crate_root, from_extern_prelude, from_preludes}
use Rattle.path_resolution.specs.Starts.{begun, start_at, map_of, super_of}
use Rattle.path_resolution.specs.Walks.{sight, walk_of}

abbrev pub goes_on : Answer → Asked
goes_on a = record { answer = a; is_final = false }

abbrev pub is_2015 : Edition → Bool
is_2015 Edition2015 = true
is_2015 _ = false

abbrev pub is_abs : PathKind → Bool
is_abs Abs = true
is_abs _ = false

abbrev pub is_import : ResolveMode → Bool
is_import mode.Import = true
is_import mode.Other = false

-- of plain and `::` paths: edition 2015 takes plain imports and `::` paths in its own way
abbrev pub as_2015 : View → Question → PathKind → ModuleId → Bool
as_2015 v q k m = is_2015 (v.fixed.tree.edition_of (v.fixed.tree.crate_of m)) && (is_abs k || is_import q.mode)

abbrev pub present : PerNs → Option PerNs
present p = if is_nothing p then None else Some p

-- the shadow mode counts for paths of one name
abbrev pub shadow_of : BuiltinShadowMode → List Name → BuiltinShadowMode
shadow_of s [] = s
shadow_of s (n ∷ ns) = shadow.Module

-- the first name's entries; none where `::` has no such crate
abbrev pub first_by : PathKind → View → Question → ModuleId → Name → List Name → Option PerNs
first_by Abs v q m n ns = present (from_extern_prelude v m n)
first_by _ v q m n ns = Some (from_module v q (shadow_of q.shadow ns) m n)

abbrev pub first_of : View → Question → PathKind → ModuleId → Name → List Name → Option PerNs
first_of v q k m n ns = if as_2015 v q k m then Some (from_crate_root v m n) else first_by k v q m n ns

-- the same in the crate's preludes alone
abbrev pub preludes_by : PathKind → View → Question → ModuleId → Name → Option PerNs
preludes_by Abs v q m n = present (from_extern_prelude v m n)
preludes_by _ v q m n = Some (from_preludes v q.expected_macro_subns m n)

abbrev pub preludes_first : View → Question → PathKind → ModuleId → Name → Option PerNs
preludes_first v q k m n = if as_2015 v q k m then Some (from_extern_prelude v m n) else preludes_by k v q m n

-- the answer where the first name has those entries: the further names are numbered from 1
abbrev pub named_by : View → ModuleId → ModuleId → Option PerNs → List Name → Answer
named_by v judge m None ns = empty No
named_by v judge m (Some p) ns = walk_of (sight v judge) (begun v.fixed.tree m p) 1 ns

-- a plain path of several names asks no further once its first name has a type
abbrev pub settles : PathKind → Option PerNs → List Name → Bool
settles Plain (Some p) (n ∷ ns) = is_some p.types
settles _ _ _ = false

-- a path whose first name has those entries, asked in the module m
abbrev pub asked_from : View → ModuleId → PathKind → ModuleId → Option PerNs → List Name → Asked
asked_from v judge k m first ns = record { answer = named_by v judge m first ns; is_final = settles k first ns }

abbrev pub single_named : View → Question → PathKind → List Name → ModuleId → Asked
single_named v q k [] m = goes_on (empty Yes)
single_named v q k (n ∷ ns) m = asked_from v q.original_module k m (first_of v q k m n ns) ns

-- what a `self` path answers that is asked in a module that is no block root: in a module of a block the last question adds
-- empty, Yes
abbrev pub self_asked : View → ModuleId → List Name → ModuleId → Answer
self_asked v judge ns at =
    let a = walk_of (sight v judge) (start_at v.fixed.tree at at) 0 ns in
    if is_some (v.fixed.tree.block_of at) then merged a (empty Yes) else a

-- a missing parent answers empty, Yes; in another map the answer is that of a `self` path asked there
abbrev pub super_asked : View → ModuleId → List Name → ModuleId → Option ModuleId → Answer
super_asked v judge ns m None = empty Yes
super_asked v judge ns m (Some at) =
    if same_map.it (map_of v.fixed.tree at) (map_of v.fixed.tree m) then walk_of (sight v judge) (start_at v.fixed.tree m at) 0 ns
    else self_asked v judge ns at

abbrev pub root_asked : View → ModuleId → List Name → ModuleId → CrateId → Answer
root_asked v judge ns m c = walk_of (sight v judge) (start_at v.fixed.tree m (v.fixed.tree.crate_root c)) 0 ns

abbrev pub single_by : PathKind → View → Question → List Name → ModuleId → Asked
single_by Plain v q ns m = single_named v q Plain ns m
single_by Abs v q ns m = single_named v q Abs ns m
single_by Crate v q ns m = goes_on (root_asked v q.original_module ns m (v.fixed.tree.crate_of m))
single_by (DollarCrate c) v q ns m = goes_on (root_asked v q.original_module ns m c)
single_by (Super level) v q ns m = goes_on (super_asked v q.original_module ns m (super_of v.fixed.tree level m))

-- the path asked in the module m; who may see is judged from the original module
unfoldable pub single_of : View → Question → PathKind → List Name → ModuleId → Asked
single_of v q k ns m = single_by k v q ns m

abbrev pub preludes_by_kind : PathKind → View → Question → List Name → ModuleId → Answer
preludes_by_kind Plain v q (n ∷ ns) m = named_by v m m (preludes_first v q Plain m n) ns
preludes_by_kind Abs v q (n ∷ ns) m = named_by v m m (preludes_first v q Abs m n) ns
preludes_by_kind _ v q _ m = empty Yes

-- the path asked in the preludes of the crate of m, a block root, which also judges who may see
unfoldable pub preludes_of : View → Question → PathKind → List Name → ModuleId → Answer
preludes_of v q k ns m = preludes_by_kind k v q ns m
