-- How many modules that see an item are named.
use Rattle.std.specs.Prelude.{ℕ, ◌-◌, ◌^◌, if◌then◌else◌}
use Rattle.reports.specs.declared.style.Form.{Form}
use Rattle.reports.specs.declared.style.Form.TheVariants.{Text, Lines, Json}
use Rattle.reports.specs.declared.style.Style.{Style}

abbrev most_in : Form → ℕ
most_in Text = 20
most_in Lines = 2 ^ 64 - 1
most_in Json = 0

-- however many where all are asked for
abbrev pub most_named : Style → ℕ
most_named s = if s.all then 2 ^ 64 - 1 else most_in s.form
