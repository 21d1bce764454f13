-- What is written of a file, its items and its account as JSON. The members are in the order of their names.
use Rattle.std.specs.Prelude.{ℕ, Bool, if◌then◌else◌, List, ◌++◌, map, codes, Option, Some, None, vec_items}
use Rattle.std.specs.Global.{Vec}
use Rattle.std.specs.List.{slice_get}
use Rattle.std.specs.Str.Lossy.{utf8_lossy}
use Rattle.hir_def.specs.declared.Name.{Name}
use Rattle.hir_def.specs.declared.fault.FaultCode.{FaultCode}
use Rattle.hir_def.specs.FaultTexts.{layer_text}
use Rattle.path_text.specs.declared.mod_path.PathKind.{PathKind}
use Rattle.path_text.specs.Laws.{level_of}
use Rattle.paths.specs.Shown.{kind_word}
use Rattle.hir_def.specs.declared.ModuleId.{ModuleId}
use Rattle.entries.specs.declared.account.Account.{Account}
use Rattle.firmware.specs.declared.file.Declared.{Declared}
use Rattle.serde_json.specs.Data.{Data, null, number, unsigned, string, array, object, member, no_members}
use Rattle.serde_json.specs.View.{items_of}
use Rattle.serde_json.specs.Written.{compact_text}
use Rattle.wording.specs.declared.counts.DeliveryCounts.{DeliveryCounts}
use Rattle.wording.specs.declared.range.Range.{Range}
use Rattle.wording.specs.declared.range.Range.TheVariants.{All, Crate, Inside}
use Rattle.wording.specs.declared.seen.Seen.{Seen}
use Rattle.wording.specs.Ranges.{range_text}
use Rattle.wording.specs.Shown.{module_text, visibility_text}

abbrev pub file_data : List ℕ → ℕ → ℕ → ℕ → Data
file_data path modules items paths = object
    (member (codes "file") (string path)
    (member (codes "items") (number (unsigned items))
    (member (codes "kind") (string (codes "file"))
    (member (codes "modules") (number (unsigned modules))
    (member (codes "paths") (number (unsigned paths)) no_members)))))

abbrev pub account_data : Account → ℕ → ℕ → DeliveryCounts → Data
account_data a modules paths d = object
    (member (codes "changed") (number (unsigned d.changed))
    (member (codes "hidden") (number (unsigned a.hidden))
    (member (codes "items") (number (unsigned a.items))
    (member (codes "kind") (string (codes "account"))
    (member (codes "modules") (number (unsigned modules))
    (member (codes "paths") (number (unsigned paths))
    (member (codes "refused") (number (unsigned a.refused))
    (member (codes "refused_deliveries") (number (unsigned d.refused))
    (member (codes "seen") (number (unsigned a.seen))
    (member (codes "unchanged") (number (unsigned d.unchanged)) no_members))))))))))

-- the name of a crate's root, or of the module that all others are inside
abbrev pub of_data : List (List ℕ) → Range → ModuleId → Data
of_data names All m = null
of_data names (Crate c) m = string (module_text names m)
of_data names (Inside n) m = string (module_text names m)

abbrev pub item_data : Declared → List ℕ → List ℕ → Data → ℕ → Data → Data
item_data d vis range of count seers = object
    (member (codes "count") (number (unsigned count))
    (member (codes "item") (string d.name.now)
    (member (codes "kind") (string (codes "item"))
    (member (codes "module") (string d.module.now)
    (member (codes "of") of
    (member (codes "range") (string range)
    (member (codes "seers") seers
    (member (codes "visibility") (string vis) no_members))))))))

abbrev pub module_data : List (List ℕ) → ModuleId → Data
module_data names m = string (module_text names m)

abbrev named : List (List ℕ) → Option (Vec ModuleId) → Data
named names None = null
named names (Some v) = array (items_of (map (module_data names) (vec_items v)))

-- the names of the modules that see an item, where they are to be told
abbrev pub seers_data : List (List ℕ) → Option (Vec ModuleId) → Bool → Data
seers_data names seers all = if all then named names seers else null

-- an item and who sees it
abbrev pub item_seen : List (List ℕ) → Declared → Seen → Bool → Data
item_seen names d s all =
    item_data d (visibility_text names d.vis) (range_text s.range) (of_data names s.range s.of) s.count (seers_data names s.seers all)

-- why an item is refused, with a sentence beside the refusal
abbrev pub refused_data : Declared → List ℕ → FaultCode → List ℕ → Data
refused_data d vis code why = object
    (member (codes "item") (string d.name.now)
    (member (codes "kind") (string (codes "refused"))
    (member (codes "layer") (string (layer_text code.layer))
    (member (codes "module") (string d.module.now)
    (member (codes "number") (number (unsigned code.number))
    (member (codes "place") (number (unsigned code.place))
    (member (codes "visibility") (string vis)
    (member (codes "why") (string why) no_members))))))))

-- a name by the list; null where the list has none of that number
abbrev pub line_data : Option (List ℕ) → Data
line_data None = null
line_data (Some t) = string (utf8_lossy t)

abbrev pub name_data : List (List ℕ) → Name → Data
name_data ls n = line_data (slice_get ls n.0)

abbrev pub names_data : List (List ℕ) → List Name → Data
names_data ls ns = array (items_of (map (name_data ls) ns))

abbrev pub number_data : Name → Data
number_data n = number (unsigned n.0)

abbrev pub numbers_data : List Name → Data
numbers_data ns = array (items_of (map number_data ns))

abbrev pub path_object : List ℕ → List ℕ → ℕ → Data → Data → Data
path_object text start level names numbers = object
    (member (codes "kind") (string (codes "path"))
    (member (codes "level") (number (unsigned level))
    (member (codes "names") names
    (member (codes "numbers") numbers
    (member (codes "path") (string text)
    (member (codes "start") (string start) no_members))))))

-- a path as it is written, and what it was read as
abbrev pub path_data : List (List ℕ) → List ℕ → PathKind → List Name → Data
path_data ls text kind names = path_object (utf8_lossy text) (kind_word kind) (level_of kind) (names_data ls names) (numbers_data names)

-- a value as a line
unfoldable pub value_line : Data → List ℕ
value_line d = compact_text d ++ codes "\n"
