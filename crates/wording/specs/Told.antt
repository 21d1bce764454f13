-- What is written of an item, of who sees it, and of the account.
use Rattle.std.specs.Prelude.{ℕ, ◌/◌, ◌%◌, ◌==◌, nat_lt, if◌then◌else◌, List, [], ◌∷◌, ◌++◌, Option, Some, None, codes, decimal, vec_items}
use Rattle.std.specs.Global.{Vec}
use Rattle.std.specs.List.{concat}
use Rattle.hir_def.specs.declared.ModuleId.{ModuleId}
use Rattle.hir_def.specs.declared.fault.FaultCode.{FaultCode}
use Rattle.hir_def.specs.FaultTexts.{code_text}
use Rattle.firmware.specs.declared.file.Declared.{Declared}
use Rattle.entries.specs.declared.account.Account.{Account}
use Rattle.wording.specs.declared.counts.DeliveryCounts.{DeliveryCounts}
use Rattle.wording.specs.Aligned.{aligned}
use Rattle.wording.specs.Outcomes.{counts_text}
use Rattle.wording.specs.declared.range.Range.{Range}
use Rattle.wording.specs.declared.range.Range.TheVariants.{All, Crate, Inside}
use Rattle.wording.specs.declared.seen.Seen.{Seen}
use Rattle.wording.specs.Shown.{module_text, visibility_text, modules_text}

-- a comma before the last three digits, where there are more
abbrev pub grouped : ℕ → List ℕ
grouped n =
    if nat_lt n 1000 then decimal n
    else decimal (n / 1000) ++ codes "," ++ decimal (n / 100 % 10) ++ decimal (n / 10 % 10) ++ decimal (n % 10)

abbrev pub range_told : List (List ℕ) → Range → ModuleId → List ℕ
range_told names All m = []
range_told names (Crate c) m = codes " of crate " ++ module_text names m
range_told names (Inside n) m = codes " inside " ++ module_text names m

abbrev pub item_told : List (List ℕ) → Declared → List ℕ
item_told names d = d.name.now ++ codes " in " ++ d.module.now ++ codes ", " ++ visibility_text names d.vis

-- the modules where they are named, else their range
abbrev pub seers_told : List (List ℕ) → ℕ → ℕ → Range → ModuleId → Option (Vec ModuleId) → List ℕ
seers_told names modules count range m (Some v) =
    codes "    seen from " ++ decimal count ++ codes " of " ++ decimal modules ++ codes ": " ++ modules_text names (codes ", ") (vec_items v) ++ codes "\n"
seers_told names modules count range m None =
    codes "    seen from all " ++ grouped count ++ codes " modules" ++ range_told names range m ++ codes "\n"

abbrev pub seen_told : List (List ℕ) → ℕ → Seen → List ℕ
seen_told names modules s =
    if s.count == modules then codes "    seen from all " ++ decimal modules ++ codes " modules\n"
    else seers_told names modules s.count s.range s.of s.seers

abbrev seers_of : Option (Vec ModuleId) → List ModuleId
seers_of None = []
seers_of (Some v) = vec_items v

abbrev pub seen_line : List (List ℕ) → Declared → Seen → List ℕ
seen_line names d s =
    codes "seen " ++ d.name.now ++ codes " " ++ d.module.now ++ codes " " ++ decimal s.count ++ codes " " ++ modules_text names (codes " ") (seers_of s.seers)

abbrev pub refused_line : Declared → FaultCode → List ℕ
refused_line d c = codes "refused " ++ d.name.now ++ codes " " ++ d.module.now ++ codes " " ++ code_text c

abbrev pub asked_told : ℕ → ℕ → ℕ → List ℕ
asked_told items modules seen = concat (
    codes "\naccount\n    items               " ∷ aligned items
    ∷ codes "\n    modules             " ∷ aligned modules
    ∷ codes "\n    pairs seen          " ∷ aligned seen ∷ codes "\n" ∷ [])

abbrev pub rest_told : ℕ → ℕ → ℕ → List ℕ
rest_told hidden refused paths = concat (
    codes "    pairs not seen      " ∷ aligned hidden
    ∷ codes "\n    items refused       " ∷ aligned refused
    ∷ codes "\n    paths               " ∷ aligned paths ∷ codes "\n" ∷ [])

abbrev pub deliveries_told : DeliveryCounts → List ℕ
deliveries_told d = concat (
    codes "    deliveries made     " ∷ aligned d.changed
    ∷ codes "\n    changed nothing     " ∷ aligned d.unchanged
    ∷ codes "\n    deliveries refused  " ∷ aligned d.refused ∷ codes "\n" ∷ [])

-- the account for people
abbrev pub account_told : Account → ℕ → ℕ → DeliveryCounts → List ℕ
account_told a modules paths d = asked_told a.items modules a.seen ++ rest_told a.hidden a.refused paths ++ deliveries_told d

abbrev pub pair : ℕ → ℕ → List ℕ
pair a b = decimal a ++ codes " " ++ decimal b

abbrev pub account_line : Account → ℕ → ℕ → DeliveryCounts → List ℕ
account_line a modules paths d =
    codes "account " ++ pair a.items modules ++ codes " " ++ pair a.seen a.hidden ++ codes " " ++ pair a.refused paths ++ codes " " ++ counts_text d
