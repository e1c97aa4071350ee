-- The words of the commands.
use Rattle.std.specs.Prelude.{◌≡◌, ◌≢◌, ◌<◌, ◌^◌, ℕ, List, [], Option, Some, None, map, unwrap_or, codes}
use Rattle.std.specs.Borrow.{Bor}
use Rattle.clap.specs.declared.error.ErrorKind.TheVariants.{OutOfMemory}
use Rattle.clap.specs.Values.{kind_of}
use Rattle.clap.specs.Walk.{Row, all_of, first_of}
use Rattle.hprof_questions.specs.declared.report_word.Follows.{Follows}
use Rattle.hprof_questions.specs.declared.report_word.Follows.TheVariants as follow
use Rattle.hprof_questions.specs.Words.{follows_of, word_of}
use Rattle.hprof_scratch.specs.Size.{IsSize}
use Rattle.hprof_command.specs.declared.command.NewFile.TheVariants as files
use Rattle.hprof_command.specs.declared.command.Misunderstood.{Misunderstood}
use Rattle.hprof_command.specs.declared.command.Misunderstood.TheVariants as misunderstood
use Rattle.hprof_command.specs.declared.command.subcommands.CommandWord.{CommandWord}
use Rattle.hprof_command.specs.declared.command.subcommands.CommandWord.TheVariants as commands
use Rattle.hprof_command.specs.declared.command.Asked.{Asked}
use Rattle.hprof_command.specs.declared.command.Task.{Task}
use Rattle.hprof_command.specs.declared.command.Task.TheVariants as tasks

abbrev pub command_word : CommandWord → List ℕ
command_word (commands.Write files.Dump) = codes "join"
command_word (commands.Write files.Dump101) = codes "join101"
command_word commands.Salvage = codes "salvage"
command_word (commands.Report report) = word_of report
command_word commands.Compare = codes "diff"
command_word commands.Ask = codes "ask"

-- the text that clap found for an argument; the empty one if it found none
abbrev pub text_in : List ℕ → List Row → List ℕ
text_in argument rows = unwrap_or (first_of argument rows) []

-- these are the names of parts that clap found
abbrev pub ArePartsIn : List Row → List (Bor (List ℕ)) → Type 0
ArePartsIn rows parts = map (λ part. part.now) parts ≡ unwrap_or (all_of (codes "part") rows) []

-- the text that says what a report is about
abbrev pub subject_in : Follows → List Row → List ℕ
subject_in follow.Nothing rows = []
subject_in follow.Identifier rows = text_in (codes "id") rows
subject_in follow.ClassOrObject rows = text_in (codes "id") rows
subject_in follow.ClassOrType rows = text_in (codes "kind") rows

-- the text of the option for the memory, if clap found it
abbrev pub memory_in : List Row → Option (List ℕ)
memory_in rows = first_of (codes "memory") rows

-- the text is the size of that memory; without a text no size is asked for
abbrev pub IsMemory : Option (List ℕ) → Option ℕ → Type 0
IsMemory None memory = memory ≡ None
IsMemory (Some text) memory = (bytes : ℕ) × (memory ≡ Some bytes) × IsSize text bytes

-- there is a text, and it is no size below 2^64 bytes
abbrev pub IsNoSize : Option (List ℕ) → Type 0
IsNoSize None = ⊥
IsNoSize (Some text) = (bytes : ℕ) → bytes < 2 ^ 64 → ¬ (IsSize text bytes)

-- the word and what clap found behind it ask for the task: each task has one word
abbrev pub AsksFor : List ℕ → List Row → Task → Type 0
AsksFor word rows tasks.JoinInput = ⊥
AsksFor word rows (tasks.Write product out parts) = (word ≡ command_word (commands.Write product))
    × (out.name.now ≡ text_in (codes "out") rows) × ArePartsIn rows parts.items
AsksFor word rows (tasks.Salvage out parts) = (word ≡ command_word commands.Salvage)
    × (out.name.now ≡ text_in (codes "out") rows) × ArePartsIn rows parts.items
AsksFor word rows (tasks.Report report text parts) = (word ≡ command_word (commands.Report report))
    × (text.now ≡ subject_in (follows_of report) rows) × ArePartsIn rows parts.items
AsksFor word rows (tasks.Compare older newer) = (word ≡ command_word commands.Compare)
    × (older.now ≡ text_in (codes "older") rows) × (newer.now ≡ text_in (codes "newer") rows)
AsksFor word rows (tasks.Ask parts) = (word ≡ command_word commands.Ask) × ArePartsIn rows parts.items

-- the task of words among which clap found that command, with that behind it, or none
abbrev pub IsTaskOf : Option (List ℕ × List Row) → Task → Type 0
IsTaskOf None task = task ≡ tasks.JoinInput
IsTaskOf (Some (word, rows)) task = AsksFor word rows task

-- the memory of words among which clap found that command, with that behind it, or none
abbrev pub IsMemoryOf : Option (List ℕ × List Row) → Option ℕ → Type 0
IsMemoryOf None memory = memory ≡ None
IsMemoryOf (Some (word, rows)) memory = IsMemory (memory_in rows) memory

-- what they ask for
abbrev pub IsAsked : Option (List ℕ × List Row) → Asked → Type 0
IsAsked found asked = IsTaskOf found asked.task × IsMemoryOf found asked.memory

-- a word that is in no row is not understood
abbrev pub IsNoCommand : Option (List ℕ × List Row) → Type 0
IsNoCommand found = (it : List ℕ × List Row) × (found ≡ Some it) × ((command : CommandWord) → it.0 ≢ command_word command)

-- nor is the text of the option for the memory, if it is no size
abbrev pub IsNoSizeOf : Option (List ℕ × List Row) → Type 0
IsNoSizeOf None = ⊥
IsNoSizeOf (Some (word, rows)) = IsNoSize (memory_in rows)

-- why what clap found behind a command asks for nothing: there was no memory, or a text is no size
abbrev pub AsksForNothing : List Row → Misunderstood → Type 0
AsksForNothing rows (misunderstood.Words error) = kind_of error ≡ OutOfMemory
AsksForNothing rows misunderstood.NoCommand = ⊥
AsksForNothing rows misunderstood.NoSize = IsNoSize (memory_in rows)

-- why words that clap has understood ask for nothing: so it is, or the command is in no row
abbrev pub IsUnmatched : Option (List ℕ × List Row) → Misunderstood → Type 0
IsUnmatched found (misunderstood.Words error) = kind_of error ≡ OutOfMemory
IsUnmatched found misunderstood.NoCommand = IsNoCommand found
IsUnmatched found misunderstood.NoSize = IsNoSizeOf found
