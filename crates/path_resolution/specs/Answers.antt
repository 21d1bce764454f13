-- Answers: the empty ones, and how two answers are merged.
use Rattle.std.specs.Prelude.{ℕ, false, ◌||◌, Some, None, Option, max}
use Rattle.entries.specs.declared.per_ns.PerNs.{PerNs}
use Rattle.entries.specs.Entries.{nothing, or_else}
use Rattle.path_resolution.specs.declared.answer.ReachedFixedPoint.{ReachedFixedPoint}
use Rattle.path_resolution.specs.declared.answer.ReachedFixedPoint.TheVariants.{Yes, No}
use Rattle.path_resolution.specs.declared.answer.ResolvePathResultPrefixInfo.{ResolvePathResultPrefixInfo as Flags}
use Rattle.path_resolution.specs.declared.answer.ResolvePathResult.{ResolvePathResult as Answer}

abbrev pub no_flags : Flags
no_flags = record { differing_crate = false; enum_variant = false }

abbrev pub empty : ReachedFixedPoint → Answer
empty s = record { resolved_def = nothing; segment_index = None; reached_fixedpoint = s; prefix_info = no_flags }

-- the whole path stands for those entries, with those flags
abbrev pub resolved : PerNs → Flags → Answer
resolved p f = record { resolved_def = p; segment_index = None; reached_fixedpoint = Yes; prefix_info = f }

-- the newer status, if the older is No
abbrev pub newer_if_no : ReachedFixedPoint → ReachedFixedPoint → ReachedFixedPoint
newer_if_no Yes s = Yes
newer_if_no No s = s

abbrev pub joined : Flags → Flags → Flags
joined a b = record { differing_crate = a.differing_crate || b.differing_crate; enum_variant = a.enum_variant || b.enum_variant }

abbrev pub larger : Option ℕ → Option ℕ → Option ℕ
larger None b = b
larger (Some x) None = Some x
larger (Some x) (Some y) = Some (max x y)

-- an older answer and a newer one
abbrev pub merged : Answer → Answer → Answer
merged a b = record {
  resolved_def = or_else a.resolved_def b.resolved_def;
  segment_index = larger a.segment_index b.segment_index;
  reached_fixedpoint = newer_if_no a.reached_fixedpoint b.reached_fixedpoint;
  prefix_info = joined a.prefix_info b.prefix_info;
}
