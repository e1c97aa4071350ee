-- What a folder lets a task do of which nothing is told.
use Rattle.hprof_command.specs.declared.command.Task.{Task}
use Rattle.hprof_command.specs.declared.command.Task.TheVariants as tasks
use Rattle.hprof_tool.specs.Folder.{nothing_told}
use Rattle.hprof_tool.specs.Tasks.{MayDo}

-- it lets every task do what it does
pub may_do : (P W : Type 0) (task : Task) → MayDo {P = P} {W = W} nothing_told task
may_do P W tasks.JoinInput = tt
may_do P W (tasks.Write product out parts) = λ opened are. tt
may_do P W (tasks.Salvage out parts) = λ opened are. tt
may_do P W (tasks.Report word text parts) = tt
may_do P W (tasks.Compare older newer) = tt
may_do P W (tasks.Ask parts) = tt
