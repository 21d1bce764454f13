-- What is answered to a command, and what a command does to what an index tells.
use Rattle.std.specs.Prelude.{◌≡◌, ℕ, Bool, if◌then◌else◌, List, Ok, Err, Result, MatchResult, nat_lt, vec_items}
use Rattle.std.specs.declared.alloc.AllocError.{AllocError}
use Rattle.hir_def.specs.declared.ModuleId.{ModuleId}
use Rattle.hir_def.specs.declared.Name.{Name}
use Rattle.hir_def.specs.declared.fault.Fault.{Fault}
use Rattle.hir_def.specs.declared.fault.Fault.TheVariants.{Text, Path, Tree, Index}
use Rattle.hir_def.specs.declared.fault.IndexFault.{IndexFault}
use Rattle.hir_def.specs.declared.fault.IndexFault.TheVariants.{NoModule, NoName}
use Rattle.hir_def.specs.declared.fault.PathFault.{PathFault}
use Rattle.hir_def.specs.declared.fault.TextFault.{TextFault}
use Rattle.hir_def.specs.declared.fault.TreeFault.{TreeFault}
use Rattle.entries.specs.declared.per_ns.PerNs.{PerNs}
use Rattle.entries.specs.Visibilities.{asked}
use Rattle.item_scope.specs.declared.delivery.Delivery.{Delivery}
use Rattle.item_scope.specs.Views.{View, entries_at}
use Rattle.item_scope.specs.Deliveries.{refused, any_changed, answer_of, Takes}
use Rattle.path_text.specs.declared.mod_path.ModPath.{ModPath}
use Rattle.path_text.specs.declared.mod_path.PathKind.{PathKind}
use Rattle.path_text.specs.Laws.{IsRead, Denies, IsReadable}
use Rattle.path_text.specs.Lists.{made_of}
use Rattle.path_text.specs.Paths.{read_of}
use Rattle.path_resolution.specs.declared.answer.ResolvePathResult.{ResolvePathResult}
use Rattle.path_resolution.specs.declared.question.Question.{Question}
use Rattle.path_resolution.specs.Questions.{answered}
use Rattle.world_commands.specs.declared.command.Command.{Command}
use Rattle.world_commands.specs.declared.command.Command.TheVariants as command
use Rattle.world_commands.specs.declared.answer.Answer.{Answer}
use Rattle.world_commands.specs.declared.answer.Answer.TheVariants.{Delivered, Asked, Place, Sight, Read, Left, Refused}

-- the answer, or the refusal as one
abbrev pub told : Result Answer Fault → Answer
told (Ok a) = a
told (Err f) = Refused f

-- whether a namespace changed, or why the delivery is refused
abbrev pub delivery_answer : Result Bool IndexFault → Answer
delivery_answer (Ok changed) = Delivered changed
delivery_answer (Err f) = Refused (Index f)

-- what an index that tells v and has so many rows left answers a delivery
abbrev pub taken_of : View → ℕ → Delivery → Result Bool IndexFault
taken_of v left d = answer_of (refused v left d) (any_changed v d)

-- what the path stands for, or why that is not answered
abbrev pub ask_answer : Result ResolvePathResult PathFault → Answer
ask_answer (Ok a) = Asked a
ask_answer (Err f) = Refused (Path f)

-- the path that was read, or why none was
abbrev pub read_answer : Result ModPath TextFault → Answer
read_answer (Ok p) = Read p
read_answer (Err f) = Refused (Text f)

-- what the path that was read stands for, or why none was read
abbrev pub ask_read : View → Question → Result ModPath TextFault → Answer
ask_read v q (Ok p) = ask_answer (answered v q p.kind (vec_items p.names))
ask_read v q (Err f) = Refused (Text f)

-- the same by the kind and the names of the path
abbrev pub read_asked : View → Question → Result (PathKind × List Name) TextFault → Answer
read_asked v q (Ok p) = ask_answer (answered v q p.0 p.1)
read_asked v q (Err f) = Refused (Text f)

-- the entries that hold a name's places, or the number that does not exist
abbrev pub place_asked : View → ModuleId → Name → Result PerNs IndexFault
place_asked v m n =
    if nat_lt m.0 v.fixed.tree.modules then (if nat_lt n.0 v.fixed.names then Ok (entries_at v m n) else Err NoName)
    else Err NoModule

abbrev pub place_answer : Result PerNs IndexFault → Answer
place_answer (Ok entries) = Place entries
place_answer (Err f) = Refused (Index f)

-- whether the module may see, or why that is not answered
abbrev pub sight_answer : Result Bool TreeFault → Answer
sight_answer (Ok seen) = Sight seen
sight_answer (Err f) = Refused (Tree f)

-- what the list reads the text as, or why it reads none
abbrev pub IsReadAs : List (List ℕ) → List ℕ → Answer → Type 0
IsReadAs ls text (Read p) = IsRead ls text p.kind (vec_items p.names)
IsReadAs ls text (Refused (Text f)) = Denies ls text f
IsReadAs ls text _ = ⊥

-- what an index that tells v answers to the path that the list reads the text as, or why it reads none
abbrev pub IsAskedAs : View → Question → List (List ℕ) → List ℕ → Answer → Type 0
IsAskedAs v q l text a = a ≡ read_asked v q (read_of l text)

-- where there is no list, why; only the reading of a path that it names may want memory
abbrev pub TextAnswer : (List (List ℕ) → List ℕ → Answer → Type 0) → Result (List (List ℕ)) TextFault → List ℕ → Result Answer AllocError → Type 0
TextAnswer Means (Err f) text r = r ≡ Ok (Refused (Text f))
TextAnswer Means (Ok l) text r = MatchResult r (Means l text) (λ e. IsReadable l text)

-- the path that the list reads the text as, or why it reads none
abbrev pub PathOrFault : List (List ℕ) → List ℕ → Result ModPath TextFault → Type 0
PathOrFault l text (Ok p) = (read_of l text ≡ Ok (p.kind, vec_items p.names)) × IsRead l text p.kind (vec_items p.names)
PathOrFault l text (Err f) = (read_of l text ≡ Err f) × Denies l text f

-- the same, or why there is no list
abbrev pub PathRead : Result (List (List ℕ)) TextFault → List ℕ → Result (Result ModPath TextFault) AllocError → Type 0
PathRead (Err f) text r = r ≡ Ok (Err f)
PathRead (Ok l) text r = MatchResult r (PathOrFault l text) (λ e. IsReadable l text)

-- the list of an index that tells v, or its first line at fault
abbrev pub names_for : View → List ℕ → Result (List (List ℕ)) TextFault
names_for v list = made_of list v.fixed.names

-- the answer to each command, by an index that tells v and has so many rows left, and by the bytes of a list
abbrev pub AnswerTo : View → ℕ → List ℕ → Command → Result Answer AllocError → Type 0
AnswerTo v left list (command.Deliver d) r = r ≡ Ok (delivery_answer (taken_of v left d))
AnswerTo v left list (command.Ask q p) r = r ≡ Ok (ask_answer (answered v q p.kind (vec_items p.names)))
AnswerTo v left list (command.AskText q text) r = TextAnswer (IsAskedAs v q) (names_for v list) (vec_items text) r
AnswerTo v left list (command.Place m n) r = r ≡ Ok (place_answer (place_asked v m n))
AnswerTo v left list (command.Sight vis from) r = r ≡ Ok (sight_answer (asked v.fixed.tree from vis))
AnswerTo v left list (command.Read text) r = TextAnswer IsReadAs (names_for v list) (vec_items text) r
AnswerTo v left list command.Left r = r ≡ Ok (Left left)

-- what a command makes of an index, of which Delivers is its own rule of a delivery: a delivery is taken or refused as any index takes
-- it, and by that rule; every other command leaves the index as it is
module _ {I : Type 0} (view : I → View) (left : I → ℕ) (Delivers : I → Delivery → Result Bool IndexFault → I → Type 0) where
  abbrev pub After : I → Command → I → Type 0
  After i (command.Deliver d) j =
      let r = taken_of (view i) (left i) d in
      Takes (view i) (left i) d r (view j) (left j) × Delivers i d r j
  After i _ j = j ≡ i
