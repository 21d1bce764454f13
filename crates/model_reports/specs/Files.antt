-- Which files are taken, and which of several is told where one is not.
use Rattle.std.specs.Prelude.{◌≡◌, ◌⊎◌, List, ◌∷◌, ◌++◌, map, Result, Ok, Err, vec_items}
use Rattle.std.specs.List.{All, AllZip}
use Rattle.hir_def.specs.declared.fault.Failure.{Failure}
use Rattle.hir_def.specs.declared.fault.Failure.TheVariants as failure
use Rattle.troubles.specs.declared.trouble.Located.{Located}
use Rattle.troubles.specs.declared.trouble.Trouble.{Trouble}
use Rattle.firmware.specs.declared.file.Firmware.{Firmware}
use Rattle.firmware.specs.declared.survey.Survey.{Survey}
use Rattle.firmware.specs.Surveys.{Takes, WhyNot}
use Rattle.file_reader.specs.Reading.{Reads, RefusesFile}
use Rattle.model_reports.specs.declared.files.File.{File}
use Rattle.model_reports.specs.declared.files.ReadFile.{ReadFile}
use Rattle.model_reports.specs.declared.files.ReportError.{ReportError}
use Rattle.model_reports.specs.declared.files.ReportError.TheVariants.{Refused, Memory, Write}

-- a refusal is told with the file's path and its text; want of memory stays what it is
abbrev pub TellsOf : File → Failure Trouble → ReportError → Type 0
TellsOf f (failure.Memory e) r = r ≡ Memory e
TellsOf f (failure.Refused t) (Refused l) = (l.path.now ≡ f.path.now) × (l.text.now ≡ vec_items f.text) × (l.trouble ≡ t)
TellsOf f (failure.Refused t) (Memory e) = ⊥
TellsOf f (failure.Refused t) (Write e) = ⊥

-- the file's statements tell what was read
abbrev pub IsRead : ReadFile → Type 0
IsRead r = Reads (vec_items r.file.now.text) r.firmware

-- the files that were read
abbrev pub files_of : List ReadFile → List File
files_of rs = map (λ r. r.file.now) rs

-- what each file tells is taken
abbrev pub AreTaken : List ReadFile → List Survey → Type 0
AreTaken = AllZip (λ r s. Takes r.firmware s)

-- the file is read, and what it tells is taken
abbrev pub IsTaken : File → Type 0
IsTaken f = (x : Firmware) × (s : Survey) × Reads (vec_items f.text) x × Takes x s

-- why a file is not taken: a line of it is refused, or it is read, and what it tells is not taken
abbrev pub IsWhy : File → Trouble → Type 0
IsWhy f t = RefusesFile (vec_items f.text) t ⊎ ((x : Firmware) × Reads (vec_items f.text) x × WhyNot x (failure.Refused t))

-- the first file that is not taken, after files that are: its path, its text and why it is not taken are told
pub record FirstRefused (files : List File) (told : Located) : Type 0 where
  pub before : List File
  pub file : File
  pub after : List File
  pub parts : files ≡ before ++ file ∷ after
  pub taken : All IsTaken before
  pub path : told.path.now ≡ file.path.now
  pub text : told.text.now ≡ vec_items file.text
  pub why : IsWhy file told.trouble

-- why files are not all taken: the first that is not is told, or memory is wanting
abbrev pub AreNotTaken : List File → ReportError → Type 0
AreNotTaken fs (Refused l) = FirstRefused fs l
AreNotTaken fs (Memory e) = Unit {0}
AreNotTaken fs (Write e) = ⊥

-- P of what is told of a file that is not taken
abbrev pub IfNotTaken : (Located → Type 0) → ReportError → Type 0
IfNotTaken P (Refused l) = P l
IfNotTaken P (Memory e) = Unit {0}
IfNotTaken P (Write e) = Unit {0}

-- P where nothing is written yet
abbrev pub BeforeWriting : Type 0 → ReportError → Type 0
BeforeWriting P (Refused l) = P
BeforeWriting P (Memory e) = P
BeforeWriting P (Write e) = Unit {0}

-- P where the report was written, or could not be
abbrev pub OnceWriting : {T : Type 0} → Result T ReportError → Type 0 → Type 0
OnceWriting (Ok x) P = P
OnceWriting (Err (Write e)) P = P
OnceWriting (Err (Refused l)) P = Unit {0}
OnceWriting (Err (Memory e)) P = Unit {0}
