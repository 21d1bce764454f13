-- The public questions: what they refuse, and what they answer.
use Rattle.std.specs.Prelude.{ℕ, Bool, true, if◌then◌else◌, List, length, Some, None, Ok, Err, Option, Result, nat_lt, nat_le, position}
use Rattle.std.specs.Option.{option_map}
use Rattle.hir_def.specs.declared.Name.{Name}
use Rattle.hir_def.specs.declared.fault.PathFault.{PathFault}
use Rattle.hir_def.specs.declared.fault.PathFault.TheVariants.{NoModule, TooManyNames, TooManySupers, NoCrate, NoName}
use Rattle.path_text.specs.declared.mod_path.PathKind.{PathKind}
use Rattle.path_text.specs.declared.mod_path.PathKind.TheVariants.{Super, DollarCrate}
use Rattle.entries.specs.declared.per_ns.PerNs.{PerNs}
use Rattle.item_scope.specs.Views.{View}
use Rattle.path_resolution.specs.declared.answer.ResolvePathResult.{ResolvePathResult as Answer}
use Rattle.path_resolution.specs.declared.question.Question.{Question}
use Rattle.path_resolution.specs.declared.question.ResolveMode.TheVariants.{Other}
use Rattle.path_resolution.specs.Outward.{outward}

abbrev pub level_of : PathKind → ℕ
level_of (Super level) = level
level_of _ = 0

abbrev pub known_crate : View → PathKind → Bool
known_crate v (DollarCrate c) = nat_lt c.0 v.fixed.tree.crates
known_crate v _ = true

-- the index of the first name whose number does not exist
abbrev pub first_unknown : View → List Name → Option ℕ
first_unknown v ns = position (λ n. nat_le v.fixed.names n.0) ns

-- the tests in their order: the asking module, the two counts, the crate, the names
abbrev pub refusal_of : View → Question → PathKind → List Name → Option PathFault
refusal_of v q k ns =
    if nat_le v.fixed.tree.modules q.original_module.0 then Some NoModule
    else if nat_lt 64 (length ns) then Some TooManyNames
    else if nat_lt 255 (level_of k) then Some TooManySupers
    else if known_crate v k then option_map NoName (first_unknown v ns)
    else Some NoCrate

abbrev pub unless_refused : {A : Type 0} → Option PathFault → A → Result A PathFault
unless_refused None a = Ok a
unless_refused (Some r) a = Err r

abbrev pub answered : View → Question → PathKind → List Name → Result Answer PathFault
answered v q k ns = unless_refused (refusal_of v q k ns) (outward v q k ns q.original_module)

abbrev pub in_mode_other : Question → Question
in_mode_other q = record { mode = Other; original_module = q.original_module; shadow = q.shadow; expected_macro_subns = q.expected_macro_subns }

abbrev pub pair_of : Answer → PerNs × Option ℕ
pair_of a = (a.resolved_def, a.segment_index)

abbrev pub pair_answered : View → Question → PathKind → List Name → Result (PerNs × Option ℕ) PathFault
pair_answered v q k ns =
    unless_refused (refusal_of v q k ns) (pair_of (outward v (in_mode_other q) k ns q.original_module))
