-- What is written of a file before its report, and of the answer to a path.
use Rattle.std.specs.Prelude.{ℕ, List, ◌++◌, Some, None, Option, length, codes, vec_items}
use Rattle.hir_def.specs.declared.Name.{Name}
use Rattle.hir_def.specs.declared.Namespace.TheVariants as namespace
use Rattle.firmware.specs.declared.survey.Survey.{Survey}
use Rattle.index_tables.specs.LoadedTables.{rows_in}
use Rattle.reports.specs.declared.style.Form.{Form}
use Rattle.reports.specs.declared.style.Form.TheVariants.{Text, Lines, Json}
use Rattle.path_resolution.specs.declared.answer.ResolvePathResult.{ResolvePathResult}
use Rattle.path_resolution.specs.declared.question.Question.{Question}
use Rattle.wording.specs.Answers.{answer_report, answer_line}
use Rattle.wording.specs.declared.answers.AnswerLine.{AnswerLine}
use Rattle.wording.specs.Holders.{entry_at}
use Rattle.report_json.specs.Json.{value_line, file_data}
use Rattle.wording.specs.Shown.{held}

-- which file the report after it is on, and in JSON how much it has
abbrev pub heading : Form → List ℕ → Survey → List ℕ
heading Text path s = codes "file " ++ path ++ codes "\n\n"
heading Lines path s = codes "file " ++ path ++ codes "\n"
heading Json path s = value_line (file_data path (length (rows_in s.tables).tree.modules) (length (vec_items s.firmware.now.items)) (length (vec_items s.paths)))

-- the full names of a file's modules
abbrev names_of : Survey → List (List ℕ)
names_of s = held (vec_items s.firmware.now.names)

-- what is written of an answer for people
abbrev pub answer_text : Survey → List Name → Question → ResolvePathResult → List ℕ
answer_text s path q a =
    let at = entry_at s.firmware.now.definitions a.resolved_def in
    answer_report (names_of s) s.list.now path q a (at namespace.Types) (at namespace.Values) (at namespace.Macros)

-- the same as a line
abbrev pub answer_line_text : Survey → List Name → Question → ResolvePathResult → List ℕ
answer_line_text s path q a =
    let at = entry_at s.firmware.now.definitions a.resolved_def in
    answer_line (names_of s) s.list.now path q a (at namespace.Types) (at namespace.Values) (at namespace.Macros) ++ codes "\n"

-- what stands for a path's text
abbrev pub path_text_or : Option (List ℕ) → List ℕ
path_text_or (Some text) = text
path_text_or None = codes "with a name that the list does not have"

-- what an answer's line is written as, for people and as a line
abbrev pub report_shown : AnswerLine → List ℕ
report_shown l = answer_report (held l.names.now) l.told.list.now l.told.path.now l.question l.told.answer l.entries.types l.entries.values l.entries.macros

abbrev pub line_shown : AnswerLine → List ℕ
line_shown l = answer_line (held l.names.now) l.told.list.now l.told.path.now l.question l.told.answer l.entries.types l.entries.values l.entries.macros
