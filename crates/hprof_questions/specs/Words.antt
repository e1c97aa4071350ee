-- The words of the reports, and what follows each.
use Rattle.std.specs.Prelude.{ℕ, List, [], ◌∷◌, ◌++◌, codes}
use Rattle.std.specs.List.{flat_map}
use Rattle.hprof_questions.specs.declared.report.HeapReport.{HeapReport}
use Rattle.hprof_questions.specs.declared.report.HeapReport.TheVariants as heaps
use Rattle.hprof_questions.specs.declared.report.KindReport.{KindReport}
use Rattle.hprof_questions.specs.declared.report.KindReport.TheVariants as kinds
use Rattle.hprof_questions.specs.declared.report.NodeReport.{NodeReport}
use Rattle.hprof_questions.specs.declared.report.NodeReport.TheVariants as nodes
use Rattle.hprof_questions.specs.declared.report_word.Follows.{Follows}
use Rattle.hprof_questions.specs.declared.report_word.Follows.TheVariants as follow
use Rattle.hprof_questions.specs.declared.report_word.ReportWord.{ReportWord}
use Rattle.hprof_questions.specs.declared.report_word.ReportWord.TheVariants as words

-- the words of reports on the parts, or on the whole heap
abbrev pub heap_word : HeapReport → List ℕ
heap_word heaps.Check = codes "check"
heap_word heaps.Histogram = codes "histo"
heap_word heaps.Classes = codes "classes"
heap_word heaps.Threads = codes "threads"
heap_word heaps.Suspects = codes "suspects"
heap_word heaps.Retained = codes "retained"

-- the words of reports on the objects of a class or a type
abbrev pub kind_word : KindReport → List ℕ
kind_word kinds.Biggest = codes "biggest"
kind_word kinds.Objects = codes "objects"

-- the words of reports on a class or an object
abbrev pub node_word : NodeReport → List ℕ
node_word nodes.Show = codes "show"
node_word nodes.Why = codes "why"
node_word nodes.Who = codes "who"
node_word nodes.Keeps = codes "keeps"
node_word nodes.Text = codes "text"
node_word nodes.Object = codes "object"
node_word nodes.Refs = codes "refs"
node_word nodes.Path = codes "path"

-- what follows these words: `show`, `why`, `who` and `keeps` take the name of a class, too
abbrev pub node_follows : NodeReport → Follows
node_follows nodes.Show = follow.ClassOrObject
node_follows nodes.Why = follow.ClassOrObject
node_follows nodes.Who = follow.ClassOrObject
node_follows nodes.Keeps = follow.ClassOrObject
node_follows other = follow.Identifier

abbrev pub word_of : ReportWord → List ℕ
word_of (words.Heap report) = heap_word report
word_of (words.Kind report) = kind_word report
word_of (words.Node report) = node_word report

abbrev pub follows_of : ReportWord → Follows
follows_of (words.Heap report) = follow.Nothing
follows_of (words.Kind report) = follow.ClassOrType
follows_of (words.Node report) = node_follows report

-- all of them, in the order in which help lists them
abbrev pub all_words : List ReportWord
all_words =
    words.Heap heaps.Check ∷ words.Heap heaps.Histogram ∷ words.Heap heaps.Classes ∷ words.Heap heaps.Threads
    ∷ words.Heap heaps.Suspects ∷ words.Heap heaps.Retained ∷ words.Kind kinds.Biggest ∷ words.Kind kinds.Objects
    ∷ words.Node nodes.Show ∷ words.Node nodes.Why ∷ words.Node nodes.Who ∷ words.Node nodes.Keeps ∷ words.Node nodes.Text
    ∷ words.Node nodes.Object ∷ words.Node nodes.Refs ∷ words.Node nodes.Path ∷ []

-- ---- help

-- what stands in help for that which follows a word
abbrev pub follows_text : Follows → List ℕ
follows_text follow.Nothing = codes "\n"
follows_text follow.Identifier = codes " ID\n"
follows_text follow.ClassOrObject = codes " ID\n"
follows_text follow.ClassOrType = codes " KIND\n"

abbrev pub usage_line : ReportWord → List ℕ
usage_line word = word_of word ++ follows_text (follows_of word)

-- what can be asked, one question a line
abbrev pub help_text : List ℕ
help_text = codes "help\n" ++ (flat_map usage_line all_words ++ codes "quit\nexit\n")
