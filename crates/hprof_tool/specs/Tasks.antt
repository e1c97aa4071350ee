-- What a task comes to.
use Rattle.std.specs.Prelude.{◌≡◌, ℕ, List, Option, Some, None, ⊤}
use Rattle.std.specs.Io.KnownBytes.{Appends}
use Rattle.hprof_devices.specs.declared.health.Health.{Health}
use Rattle.hprof_engine.specs.Makes.{IsDump, IsMadeOf, Making}
use Rattle.hprof_stored.specs.StoredMaking.{stored_dump_making}
use Rattle.hprof_stored101.specs.StoredMaking101.{stored_dump101_making}
use Rattle.hprof_questions.specs.declared.report.Report.{Report}
use Rattle.hprof_questions.specs.declared.subject.Misnamed.{Misnamed}
use Rattle.hprof_questions.specs.Asked.{AsksReport, IsMisnamed}
use Rattle.hprof_ask.specs.Report.{IsReportText}
use Rattle.hprof_tool.specs.Again.{report_of_parts}
use Rattle.hprof_engine.specs.declared.salvaged.Salvaged.{Salvaged}
use Rattle.hprof_command.specs.declared.command.NewFile.{NewFile}
use Rattle.hprof_command.specs.declared.command.NewFile.TheVariants as files
use Rattle.hprof_command.specs.declared.command.Task.{Task}
use Rattle.hprof_command.specs.declared.command.Task.TheVariants as tasks
use Rattle.hprof_tool.specs.declared.program.refused.Refused.{Refused}
use Rattle.hprof_tool.specs.Comparing.{ComparesFiles, RefusesDiff}
use Rattle.hprof_tool.specs.Conversing.{AnswersQuestions, HasFailed, RefusesQuestions}
use Rattle.hprof_tool.specs.Folder.{Answered, MayCreateBehind}
use Rattle.hprof_tool.specs.Program.{IsMadeOfStream, IsMadeOfFiles, IsMadeInFile, IsFilesRefusal}
use Rattle.hprof_tool.specs.SalvagedFiles.{IsSalvagedFile}
use Rattle.hprof_tool.specs.Streams.{RefusesStream, RefusesReport}
use Rattle.hprof_tool.specs.Telling.{TellsFaults, RefusesSalvage}
use Rattle.hprof_tool.specs.Words.{is_new_file}

-- the text does not follow the word of the report that the task writes, for that reason
abbrev pub IsMisnamedTask : Task → Misnamed → Type 0
IsMisnamedTask (tasks.Report word text parts) fault = IsMisnamed word text.now fault
IsMisnamedTask other fault = ⊥

-- how a dump is made for a new file
abbrev pub new_file_making : NewFile → Making
new_file_making files.Dump = stored_dump_making
new_file_making files.Dump101 = stored_dump101_making

-- the task writes no new file
abbrev pub WritesNoFile : Task → Type 0
WritesNoFile (tasks.Write product out parts) = ⊥
WritesNoFile (tasks.Salvage out parts) = ⊥
WritesNoFile other = ⊤

-- the task reads nothing of the standard input
abbrev pub ReadsNothing : Task → Type 0
ReadsNothing tasks.JoinInput = ⊥
ReadsNothing (tasks.Ask parts) = ⊥
ReadsNothing other = ⊤

-- the new file of the task, if it writes one, may be created once its parts are opened
abbrev pub MayDo : {P W : Type 0} → Answered P W → Task → Type 0
MayDo answered (tasks.Write product out parts) = MayCreateBehind answered parts.items out.name.now
MayDo answered (tasks.Salvage out parts) = MayCreateBehind answered parts.items out.name.now
MayDo answered other = ⊤

-- answered: what came of the names of files
-- tells, health, pulls: what a part has left to tell, how it is doing, how often it was pulled
-- holds: what a new file tells that it holds;  left, asked_health, asked_pulls: the same as of a part, of the standard input
-- contents: what a stream tells that it holds
-- file: the new file that is given back
module _ {P W I O : Type 0} (answered : Answered P W) (tells : P → Option (List ℕ)) (health : P → Health) (pulls : P → ℕ)
    (holds : W → Option (List ℕ)) (left : I → Option (List ℕ)) (asked_health : I → Health) (asked_pulls : I → ℕ)
    (contents : O → Option (List ℕ)) (file : Option W) where
  -- the task is done, and the stream that it may have written to is that now
  abbrev pub DoesTask : Task → (input : I) → (old new : O) → Type 0
  DoesTask tasks.JoinInput input old new = IsMadeOfStream IsDump left contents input old new
  DoesTask (tasks.Write product out parts) input old new =
      ((written : W) × (file ≡ Some written)
      × IsMadeInFile (IsMadeOf (is_new_file product)) answered tells holds parts.items out.name.now written) × (new ≡ old)
  DoesTask (tasks.Salvage out parts) input old new = (salvaged : Salvaged)
      × ((written : W) × (file ≡ Some written)
      × IsSalvagedFile answered tells health pulls holds parts.items out.name.now salvaged written)
      × ((text : List ℕ) × TellsFaults salvaged.faults.items text × Appends (contents old) (contents new) text)
  DoesTask (tasks.Report word text parts) input old new = (report : Report) × AsksReport word text.now report
      × IsMadeOfFiles (IsMadeOf (IsReportText report)) answered tells contents parts.items old new
  DoesTask (tasks.Compare older newer) input old new = ComparesFiles answered tells older.now newer.now contents old new
  DoesTask (tasks.Ask parts) input old new = AnswersQuestions answered tells left contents parts.items input old new

  -- the task is refused, and so much is left of the stream
  abbrev pub RefusesTask : Task → (input : I) → (old : O) → Refused → (new : Option O) → Type 0
  RefusesTask tasks.JoinInput input old why new = RefusesStream left asked_health asked_pulls contents input old why new
  RefusesTask (tasks.Write product out parts) input old why new =
      IsFilesRefusal (new_file_making product) answered tells health pulls parts.items out.name.now why × (new ≡ Some old) × (file ≡ None)
  RefusesTask (tasks.Salvage out parts) input old why new =
      (after : O) × (new ≡ Some after)
      × RefusesSalvage answered tells health pulls holds parts.items out.name.now contents file old after why
  RefusesTask (tasks.Report word text parts) input old why new = (report : Report) × AsksReport word text.now report
      × RefusesReport (report_of_parts report) answered tells health pulls contents parts.items old why new
  RefusesTask (tasks.Compare older newer) input old why new =
      RefusesDiff answered tells older.now newer.now contents old health pulls why new
  RefusesTask (tasks.Ask parts) input old why new =
      RefusesQuestions answered tells left contents parts.items input old health pulls why new × HasFailed asked_health asked_pulls why
