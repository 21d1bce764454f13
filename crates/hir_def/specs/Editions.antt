-- Editions and their texts.
use Rattle.std.specs.Prelude.{ℕ, List, codes, Ok, Err, Result, if◌then◌else◌}
use Rattle.std.specs.Str.{bytes_eq}
use Rattle.hir_def.specs.declared.edition.Edition.{Edition}
use Rattle.hir_def.specs.declared.edition.Edition.TheVariants.{Edition2015, Edition2018, Edition2021, Edition2024}
use Rattle.hir_def.specs.declared.edition.UnknownEdition.{UnknownEdition}

abbrev pub edition_text : Edition → List ℕ
edition_text Edition2015 = codes "2015"
edition_text Edition2018 = codes "2018"
edition_text Edition2021 = codes "2021"
edition_text Edition2024 = codes "2024"

abbrev pub edition_of : List ℕ → Result Edition UnknownEdition
edition_of text =
    if bytes_eq text (codes "2015") then Ok Edition2015
    else if bytes_eq text (codes "2018") then Ok Edition2018
    else if bytes_eq text (codes "2021") then Ok Edition2021
    else if bytes_eq text (codes "2024") then Ok Edition2024
    else Err (record {})
