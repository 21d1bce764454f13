-- Tags of names, and a row of each tag before which no row has it.
use Rattle.std.specs.Prelude.{◌≡◌, ℕ, ◌+◌, ◌*◌, ◌%◌, ◌≤◌, ◌<◌, List, length, map, take, slice_index}
use Rattle.hir_def.specs.declared.ModuleId.{ModuleId}
use Rattle.hir_def.specs.declared.Name.{Name}
use Rattle.variants.specs.declared.own_places.OwnPlace.{OwnPlace}

abbrev pub tag_of : ModuleId → Name → ℕ
tag_of m n = (m.0 * 61 + n.0) % 1024

abbrev pub row_tag : OwnPlace → ℕ
row_tag r = tag_of r.at r.name

abbrev pub tag_at : List OwnPlace → ℕ → ℕ
tag_at rows index = slice_index (map row_tag rows) index

abbrev pub NoneBefore : List OwnPlace → List ℕ → Type 0
NoneBefore rows firsts = (index : ℕ) → index < length rows → slice_index firsts (tag_at rows index) ≤ index

-- what is true of rows with tags
pub record IsTagged (rows : List OwnPlace) (firsts : List ℕ) (used : ℕ) : Type 0 where
  pub within : used ≤ 64
  pub room : length rows ≡ 64
  pub tags : length firsts ≡ 1024
  pub none_before : NoneBefore (take used rows) firsts
