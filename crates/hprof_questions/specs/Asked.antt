-- What a line asks.
use Rattle.std.specs.Prelude.{◌≡◌, ◌≢◌, ◌⊎◌, ℕ, ◌<◌, ◌≤◌, List, [], ◌∷◌, ◌++◌, length, codes, Some, None}
use Rattle.std.specs.List.{AllByRecursion}
use Rattle.hprof_text.specs.Identifier.{IsIdText, id_value}
use Rattle.hprof_histogram.specs.declared.row.Kind.TheVariants as kinds
use Rattle.hprof_naming.specs.TypeNames.{arrays_named}
use Rattle.hprof_questions.specs.declared.report.Kinds.{Kinds}
use Rattle.hprof_questions.specs.declared.report.Kinds.TheVariants as these
use Rattle.hprof_questions.specs.declared.report.Node.{Node}
use Rattle.hprof_questions.specs.declared.report.Node.TheVariants as that
use Rattle.hprof_questions.specs.declared.report.Report.{Report}
use Rattle.hprof_questions.specs.declared.report.Report.TheVariants as reports
use Rattle.hprof_questions.specs.declared.report_word.Follows.{Follows}
use Rattle.hprof_questions.specs.declared.report_word.Follows.TheVariants as follow
use Rattle.hprof_questions.specs.declared.report_word.ReportWord.{ReportWord}
use Rattle.hprof_questions.specs.declared.report_word.ReportWord.TheVariants as words
use Rattle.hprof_questions.specs.declared.subject.Misnamed.{Misnamed}
use Rattle.hprof_questions.specs.declared.subject.Misnamed.TheVariants as misnamed
use Rattle.hprof_questions.specs.declared.question.Question.{Question}
use Rattle.hprof_questions.specs.declared.question.Question.TheVariants as questions
use Rattle.hprof_questions.specs.Words.{follows_of, node_follows, word_of}

-- ---- what follows a word

-- the text is an identifier
abbrev pub NamesId : List ℕ → ℕ → Type 0
NamesId text id = IsIdText text × (id_value text ≡ id)

-- the text says whose objects: the arrays of a type; if it names none, those of the class with that identifier; if it is none, those of
-- all classes that it names
abbrev pub SaysKinds : List ℕ → Kinds → Type 0
SaysKinds text (these.Of (kinds.Prim elem)) = arrays_named text ≡ Some elem
SaysKinds text (these.Of (kinds.Class class)) = (arrays_named text ≡ None) × NamesId text class
SaysKinds text (these.Named name) = (arrays_named text ≡ None) × ¬ (IsIdText text) × (name.now ≡ text)

-- the text says which class or object: by its identifier; if it is none, and a name may follow, the class that it names
abbrev pub SaysNode : Follows → List ℕ → Node → Type 0
SaysNode follows text (that.Identifier id) = NamesId text id
SaysNode follow.ClassOrObject text (that.Named name) = ¬ (IsIdText text) × (name.now ≡ text)
SaysNode other text (that.Named name) = ⊥

-- the word asks for the report, with this text behind it
abbrev pub AsksReport : ReportWord → List ℕ → Report → Type 0
AsksReport (words.Heap word) text (reports.Heap report) = word ≡ report
AsksReport (words.Kind word) text (reports.Kind report kinds) = (word ≡ report) × SaysKinds text kinds
AsksReport (words.Node word) text (reports.Node report node) = (word ≡ report) × SaysNode (node_follows word) text node
AsksReport word text report = ⊥

-- the text is none of those that follow the word
abbrev pub IsMisnamed : ReportWord → List ℕ → Misnamed → Type 0
IsMisnamed word text misnamed.NoIdentifier = (follows_of word ≡ follow.Identifier) × ¬ (IsIdText text)

-- what the word asks with that text behind it
abbrev pub IsNamed : ReportWord → List ℕ → Question → Type 0
IsNamed word text (questions.Report report) = AsksReport word text report
IsNamed word text (questions.Misnamed fault) = IsMisnamed word text fault
IsNamed word text other = ⊥

-- ---- lines

-- some bytes, and no space among them
pub record IsWord (text : List ℕ) : Type 0 where
  pub some : 0 < length text
  pub no_space : AllByRecursion (λ byte. byte ≢ 32) text

-- the line is a word and what follows it: nothing, or one space and another word
abbrev pub IsFollowed : Follows → (line word text : List ℕ) → Type 0
IsFollowed follow.Nothing line word text = (line ≡ word) × (text ≡ [])
IsFollowed other line word text = IsWord text × (line ≡ word ++ 32 ∷ text)

abbrev pub IsLineOf : (line : List ℕ) → ReportWord → (text : List ℕ) → Type 0
IsLineOf line word text = IsFollowed (follows_of word) line (word_of word) text

-- one of the words that end a dialogue
abbrev pub IsQuit : List ℕ → Type 0
IsQuit line = (line ≡ codes "quit") ⊎ (line ≡ codes "exit")

-- what the words of a line ask
abbrev pub IsQuestion : List ℕ → Question → Type 0
IsQuestion line questions.Nothing = line ≡ []
IsQuestion line questions.Help = line ≡ codes "help"
IsQuestion line questions.Quit = IsQuit line
IsQuestion line questions.NotUnderstood =
    (line ≢ []) × (line ≢ codes "help") × ¬ (IsQuit line) × ((word : ReportWord) (text : List ℕ) → IsLineOf line word text → ⊥)
IsQuestion line question = (word : ReportWord) × (text : List ℕ) × IsLineOf line word text × IsNamed word text question

-- what a line asks: one of more than 4,096 bytes is not understood
abbrev pub Asks : List ℕ → Question → Type 0
Asks line question = ((length line ≤ 4096) × IsQuestion line question) ⊎ ((4096 < length line) × (question ≡ questions.NotUnderstood))

-- the line ends the dialogue
abbrev pub Quits : List ℕ → Type 0
Quits line = Asks line questions.Quit

-- none of the lines does
abbrev pub NoneQuits : List (List ℕ) → Type 0
NoneQuits lines = AllByRecursion (λ line. ¬ (Quits line)) lines
