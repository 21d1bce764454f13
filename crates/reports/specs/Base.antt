-- What the deliveries of a file's base come to, and what is told of the base.
use Rattle.std.specs.Prelude.{ℕ, Bool, List, Option, Result, take, vec_items}
use Rattle.hir_def.specs.declared.fault.IndexFault.{IndexFault}
use Rattle.item_scope.specs.declared.delivery.Delivery.{Delivery}
use Rattle.item_scope.specs.Views.{View}
use Rattle.firmware.specs.Deliveries.{Ran, Made}
use Rattle.firmware.specs.Models.{ended}
use Rattle.firmware.specs.Parts.{deliveries_in}
use Rattle.firmware.specs.declared.deliveries.Outcome.{Outcome}
use Rattle.firmware.specs.declared.file.Firmware.{Firmware}
use Rattle.firmware.specs.declared.pile.Part.TheVariants.{Base}
use Rattle.firmware.specs.declared.survey.Survey.{Survey}
use Rattle.path_resolution.specs.declared.question.Question.{Question}
use Rattle.reports.specs.Items.{account_of, shape_in}
use Rattle.wording.specs.Outcomes.{counts_of}
use Rattle.wording.specs.declared.items.AccountTold.{AccountTold}

-- the base's deliveries and no others were made, each once and in their order, and this came of them
pub record BaseRan {I : Type 0} (view : I → View) (left : I → ℕ) (Delivers : I → Delivery → Result Bool IndexFault → I → Type 0) (f : Firmware) (old : I) (os : List Outcome) (new : I) : Type 0 where
  pub ran : Ran (view old) (left old) (deliveries_in f Base) os (view new) (left new)
  pub made : Made Delivers old os new

-- whatever came of them
abbrev pub TakesBase : {I : Type 0} → (I → View) → (I → ℕ) → (I → Delivery → Result Bool IndexFault → I → Type 0) → Firmware → I → I → Type 0
TakesBase view left Delivers f old new = (os : List Outcome) × BaseRan view left Delivers f old os new

-- how many paths the base has
abbrev pub base_paths : Survey → ℕ
base_paths s = (ended s.firmware.now Base).paths

-- who asks each of them, if anyone does
abbrev pub base_questions : Survey → List (Option Question)
base_questions s = take (base_paths s) (vec_items s.firmware.now.questions)

-- the account that is told, where this came of the deliveries
abbrev pub base_told : Survey → List Outcome → AccountTold
base_told s os = record { account = account_of s; modules = (shape_in s).modules; paths = base_paths s; deliveries = counts_of os }
