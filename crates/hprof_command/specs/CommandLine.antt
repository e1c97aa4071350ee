-- The program's command line, as clap takes it: the commands, and the arguments of each in order.
use Rattle.std.specs.Prelude.{◌≡◌, ℕ, Bool, true, false, List, [], ◌∷◌, ◌++◌, Some, map, codes, if◌then◌else◌}
use Rattle.clap.specs.declared.builder.ArgAction.TheVariants as actions
use Rattle.clap.specs.Faults.{fault_of}
use Rattle.clap.specs.Kinds.{HasKind}
use Rattle.clap.specs.Simple.{App, Shape, new_rule, new_shape, subcommand_of}
use Rattle.clap.specs.Lexer.{usize_max}
use Rattle.clap.specs.Walk.{Rule, is_empty}
use Rattle.hprof_questions.specs.declared.report_word.Follows.{Follows}
use Rattle.hprof_questions.specs.declared.report_word.Follows.TheVariants as follow
use Rattle.hprof_questions.specs.declared.report.HeapReport.TheVariants as heaps
use Rattle.hprof_questions.specs.declared.report.KindReport.TheVariants as kinds
use Rattle.hprof_questions.specs.declared.report.NodeReport.TheVariants as nodes
use Rattle.hprof_questions.specs.declared.report_word.ReportWord.TheVariants as words
use Rattle.hprof_questions.specs.Words.{follows_of}
use Rattle.hprof_command.specs.declared.command.NewFile.TheVariants as files
use Rattle.hprof_command.specs.declared.command.subcommands.CommandRow.{CommandRow}
use Rattle.hprof_command.specs.declared.command.subcommands.CommandWord.{CommandWord}
use Rattle.hprof_command.specs.declared.command.subcommands.CommandWord.TheVariants as commands
use Rattle.hprof_command.specs.declared.command.Misunderstood.{Misunderstood}
use Rattle.hprof_command.specs.declared.command.Misunderstood.TheVariants as misunderstood
use Rattle.hprof_command.specs.declared.command.Asked.{Asked}
use Rattle.hprof_command.specs.Commands.{IsAsked, IsNoCommand, IsNoSizeOf, command_word}

-- an argument that must be given
abbrev pub required_rule : List ℕ → Rule
required_rule name = record (new_rule name) { action = Some actions.Set; value_names = 1; required = true }

-- the names of the parts, any number of them
abbrev pub parts_rule : Rule
parts_rule = record (new_rule (codes "part")) {
  action = Some actions.Append;
  range = Some (record { start_inclusive = 0; end_inclusive = usize_max });
  value_names = 1;
}

-- the option for the memory that objects may take
abbrev pub memory_rule : Rule
memory_rule = record (new_rule (codes "memory")) { long = Some (codes "memory"); action = Some actions.Set; value_names = 1 }

-- the arguments for what follows the word of a report
abbrev pub arguments_of : Follows → List (List ℕ)
arguments_of follow.Nothing = []
arguments_of follow.Identifier = codes "id" ∷ []
arguments_of follow.ClassOrObject = codes "id" ∷ []
arguments_of follow.ClassOrType = codes "kind" ∷ []

-- the arguments that a command must be given, in order
abbrev pub required_of : CommandWord → List (List ℕ)
required_of (commands.Write product) = codes "out" ∷ []
required_of commands.Salvage = codes "out" ∷ []
required_of (commands.Report report) = arguments_of (follows_of report)
required_of commands.Compare = codes "older" ∷ codes "newer" ∷ []
required_of commands.Ask = []

-- whether names of parts follow
abbrev pub takes_parts : CommandWord → Bool
takes_parts commands.Compare = false
takes_parts other = true

-- the program or the command, with these arguments behind its own
abbrev pub with_rules : App → List Rule → App
with_rules app rules = record app { top = record app.top { rules = app.top.rules ++ rules } }

-- that argument, if it is taken
abbrev pub rules_if : Bool → Rule → List Rule
rules_if takes rule = if takes then rule ∷ [] else []

-- a command of that word, with these arguments: those that it must be given, then the parts, if it takes them, and the memory
abbrev pub shape_with : (word : List ℕ) → (required : List (List ℕ)) → (parts : Bool) → Shape
shape_with word required parts = record (new_shape word) {
  rules = map required_rule required ++ (rules_if parts parts_rule ++ memory_rule ∷ []);
}

abbrev pub shape_of_command : CommandWord → Shape
shape_of_command command = shape_with (command_word command) (required_of command) (takes_parts command)

abbrev pub shape_of_row : CommandRow → Shape
shape_of_row row =
    shape_with row.word.now (map (λ argument. argument.name.now) row.arguments.now) row.takes_parts

-- all commands, in the order of the program's help
abbrev pub all_commands : List CommandWord
all_commands =
    commands.Write files.Dump ∷ commands.Write files.Dump101 ∷ commands.Salvage ∷ commands.Report (words.Heap heaps.Check)
    ∷ commands.Report (words.Heap heaps.Histogram) ∷ commands.Report (words.Heap heaps.Classes)
    ∷ commands.Report (words.Heap heaps.Threads) ∷ commands.Report (words.Heap heaps.Suspects)
    ∷ commands.Report (words.Heap heaps.Retained)
    ∷ commands.Report (words.Kind kinds.Biggest)
    ∷ commands.Report (words.Kind kinds.Objects) ∷ commands.Compare
    ∷ commands.Report (words.Node nodes.Show) ∷ commands.Report (words.Node nodes.Why) ∷ commands.Report (words.Node nodes.Who)
    ∷ commands.Report (words.Node nodes.Keeps) ∷ commands.Report (words.Node nodes.Text)
    ∷ commands.Report (words.Node nodes.Object) ∷ commands.Report (words.Node nodes.Refs)
    ∷ commands.Report (words.Node nodes.Path) ∷ commands.Ask ∷ []

-- the program with these commands
abbrev pub command_line_with : List CommandWord → App
command_line_with some = record {
  top = record (new_shape (codes "hprof")) { is_leaf = is_empty some; has_version = true };
  subs = map shape_of_command some;
}

abbrev pub command_line : App
command_line = command_line_with all_commands

-- what words ask for
abbrev pub IsAskedByWords : List (List ℕ) → Asked → Type 0
IsAskedByWords words asked = (fault_of command_line words ≡ []) × IsAsked (subcommand_of command_line words) asked

-- why words ask for nothing: clap finds such a fault in them, or there was no memory; or it finds none, but the command is in no row, or
-- the text of the option for the memory is no size
abbrev pub IsMisunderstanding : List (List ℕ) → Misunderstood → Type 0
IsMisunderstanding words (misunderstood.Words error) = HasKind (fault_of command_line words) error
IsMisunderstanding words misunderstood.NoCommand =
    (fault_of command_line words ≡ []) × IsNoCommand (subcommand_of command_line words)
IsMisunderstanding words misunderstood.NoSize = (fault_of command_line words ≡ []) × IsNoSizeOf (subcommand_of command_line words)
