-- A line asks one thing.
use Rattle.std.proofs.Common.{◌≡◌, ◌⊎◌, ℕ, ◌==◌, ◌||◌, Bool, true, false, List, [], ◌∷◌, ◌++◌, refl, sym, ap, subst, ◌∙◌, inl, inr}
use Rattle.std.proofs.Common.{get_or, arith, codes, append_assoc}
use Rattle.std.specs.Prelude.{if◌then◌else◌, bytes_eq, Some, None}
use Rattle.std.specs.Borrow.{Bor}
use Rattle.std.proofs.lemmas.List.{append_cancel_left}
use Rattle.hprof_text.specs.Identifier.{IsIdText}
use Rattle.hprof_values.specs.declared.basic.Basic.{Basic}
use Rattle.hprof_histogram.specs.declared.row.Kind.TheVariants as kinds
use Rattle.hprof_questions.specs.declared.report.Kinds.{Kinds}
use Rattle.hprof_questions.specs.declared.report.Kinds.TheVariants as these
use Rattle.hprof_questions.specs.declared.report.Node.{Node}
use Rattle.hprof_questions.specs.declared.report.Node.TheVariants as that
use Rattle.hprof_questions.specs.declared.report.HeapReport.TheVariants as heaps
use Rattle.hprof_questions.specs.declared.report.KindReport.{KindReport}
use Rattle.hprof_questions.specs.declared.report.KindReport.TheVariants as kinds_of
use Rattle.hprof_questions.specs.declared.report.NodeReport.{NodeReport}
use Rattle.hprof_questions.specs.declared.report.NodeReport.TheVariants as nodes
use Rattle.hprof_questions.specs.declared.report.Report.{Report}
use Rattle.hprof_questions.specs.declared.report.Report.TheVariants as reports
use Rattle.hprof_questions.specs.declared.report_word.Follows.{Follows}
use Rattle.hprof_questions.specs.declared.report_word.Follows.TheVariants as follow
use Rattle.hprof_questions.specs.declared.report_word.ReportWord.{ReportWord}
use Rattle.hprof_questions.specs.declared.report_word.ReportWord.TheVariants as words
use Rattle.hprof_questions.specs.declared.subject.Misnamed.{Misnamed}
use Rattle.hprof_questions.specs.declared.subject.Misnamed.TheVariants as misnamed
use Rattle.hprof_questions.specs.declared.question.Question.{Question}
use Rattle.hprof_questions.specs.declared.question.Question.TheVariants as questions
use Rattle.hprof_questions.specs.Asked.{Asks, AsksReport, IsFollowed, IsLineOf, IsMisnamed, IsNamed, IsQuestion, IsQuit, SaysKinds}
use Rattle.hprof_questions.specs.Asked.{SaysNode}
use Rattle.hprof_questions.specs.Same.{IsSame, placed_question, placed_report}
use Rattle.hprof_questions.specs.Words.{all_words, follows_of, node_follows, word_of}

-- ---- which word it is

-- the bytes before the first space
abbrev front_by : Bool → ℕ → List ℕ → List ℕ
front_by true byte front = []
front_by false byte front = byte ∷ front

abbrev front : List ℕ → List ℕ
front [] = []
front (byte ∷ rest) = front_by (byte == 32) byte (front rest)

abbrev has_space : List ℕ → Bool
has_space [] = false
has_space (byte ∷ rest) = (byte == 32) || has_space rest

front_alone : (word : List ℕ) → has_space word ≡ false → front word ≡ word
front_alone [] none = refl
front_alone (byte ∷ word) none = by (byte == 32) none (front_alone word) where
  by : (test : Bool) → (test || has_space word) ≡ false → (has_space word ≡ false → front word ≡ word)
      → front_by test byte (front word) ≡ byte ∷ word
  by true none rest = absurd cc
  by false none rest = ap (λ (l : List ℕ). byte ∷ l) (rest none)

front_behind : (word text : List ℕ) → has_space word ≡ false → front (word ++ 32 ∷ text) ≡ word
front_behind [] text none = refl
front_behind (byte ∷ word) text none = by (byte == 32) none (front_behind word text) where
  by : (test : Bool) → (test || has_space word) ≡ false → (has_space word ≡ false → front (word ++ 32 ∷ text) ≡ word)
      → front_by test byte (front (word ++ 32 ∷ text)) ≡ byte ∷ word
  by true none rest = absurd cc
  by false none rest = ap (λ (l : List ℕ). byte ∷ l) (rest none)

front_of : (follows : Follows) (line word text : List ℕ) → has_space word ≡ false → IsFollowed follows line word text → front line ≡ word
front_of follow.Nothing line word text none is = ap front is.0 ∙ front_alone word none
front_of follow.Identifier line word text none is = ap front is.1 ∙ front_behind word text none
front_of follow.ClassOrObject line word text none is = ap front is.1 ∙ front_behind word text none
front_of follow.ClassOrType line word text none is = ap front is.1 ∙ front_behind word text none

-- the first report of the list with that word
abbrev word_by : List ReportWord → List ℕ → ReportWord
word_by [] text = words.Kind kinds_of.Objects
word_by (word ∷ rest) text = if bytes_eq (word_of word) text then word else word_by rest text

-- words have no space, differ from each other, and are none of `help`, `quit` and `exit`
abbrev Differs : ReportWord → Type 0
Differs word = (has_space (word_of word) ≡ false) × (word_by all_words (word_of word) ≡ word)
    × (bytes_eq (word_of word) (codes "help") ≡ false)
    × (bytes_eq (word_of word) [] ≡ false) × (bytes_eq (word_of word) (codes "quit") ≡ false)
    × (bytes_eq (word_of word) (codes "exit") ≡ false)

differs : (word : ReportWord) → Differs word
differs (words.Heap heaps.Check) = (refl, refl, refl, refl, refl, refl)
differs (words.Heap heaps.Histogram) = (refl, refl, refl, refl, refl, refl)
differs (words.Heap heaps.Classes) = (refl, refl, refl, refl, refl, refl)
differs (words.Heap heaps.Threads) = (refl, refl, refl, refl, refl, refl)
differs (words.Heap heaps.Suspects) = (refl, refl, refl, refl, refl, refl)
differs (words.Heap heaps.Retained) = (refl, refl, refl, refl, refl, refl)
differs (words.Kind kinds_of.Biggest) = (refl, refl, refl, refl, refl, refl)
differs (words.Kind kinds_of.Objects) = (refl, refl, refl, refl, refl, refl)
differs (words.Node nodes.Show) = (refl, refl, refl, refl, refl, refl)
differs (words.Node nodes.Why) = (refl, refl, refl, refl, refl, refl)
differs (words.Node nodes.Who) = (refl, refl, refl, refl, refl, refl)
differs (words.Node nodes.Keeps) = (refl, refl, refl, refl, refl, refl)
differs (words.Node nodes.Text) = (refl, refl, refl, refl, refl, refl)
differs (words.Node nodes.Object) = (refl, refl, refl, refl, refl, refl)
differs (words.Node nodes.Refs) = (refl, refl, refl, refl, refl, refl)
differs (words.Node nodes.Path) = (refl, refl, refl, refl, refl, refl)

-- the line of a word begins with it
line_front : (word : ReportWord) (line text : List ℕ) → IsLineOf line word text → front line ≡ word_of word
line_front word line text is = front_of (follows_of word) line (word_of word) text (differs word).0 is

behind : (line word one other : List ℕ) → line ≡ word ++ 32 ∷ one → line ≡ word ++ 32 ∷ other → one ≡ other
behind line word one other is is_too =
    append_cancel_left (word ++ 32 ∷ []) one other
    (append_assoc word (32 ∷ []) one ∙ sym is ∙ is_too ∙ sym (append_assoc word (32 ∷ []) other))

one_text : (follows : Follows) (line word one other : List ℕ) → IsFollowed follows line word one → IsFollowed follows line word other
    → one ≡ other
one_text follow.Nothing line word one other is is_too = is.1 ∙ sym is_too.1
one_text follow.Identifier line word one other is is_too = behind line word one other is.1 is_too.1
one_text follow.ClassOrObject line word one other is is_too = behind line word one other is.1 is_too.1
one_text follow.ClassOrType line word one other is is_too = behind line word one other is.1 is_too.1

-- a line is that of one word, with one text behind it
one_line : (line : List ℕ) (word word_too : ReportWord) (text text_too : List ℕ) → IsLineOf line word text → IsLineOf line word_too text_too
    → (word ≡ word_too) × (text ≡ text_too)
one_line line word word_too text text_too is is_too =
    let fronts = sym (line_front word line text is) ∙ line_front word_too line text_too is_too in
    let same = sym (differs word).1 ∙ ap (word_by all_words) fronts ∙ (differs word_too).1 in (
      same,
      one_text (follows_of word_too) line (word_of word_too) text text_too
          (subst (λ (w : ReportWord). IsLineOf line w text) same is) is_too,
    )

-- the line of a word has some bytes, and is none of `help`, `quit` and `exit`
some_bytes : (word : ReportWord) (line text : List ℕ) → IsLineOf line word text → line ≡ [] → ⊥
some_bytes word line text is none =
    let e : bytes_eq (word_of word) [] ≡ true = ap (λ (l : List ℕ). bytes_eq l []) (sym (line_front word line text is) ∙ ap front none) in
    let no : true ≡ false = sym e ∙ (differs word).3 in
    absurd cc

not_help : (word : ReportWord) (line text : List ℕ) → IsLineOf line word text → line ≡ codes "help" → ⊥
not_help word line text is help =
    let e : bytes_eq (word_of word) (codes "help") ≡ true =
    ap (λ (l : List ℕ). bytes_eq l (codes "help")) (sym (line_front word line text is) ∙ ap front help) in
    let no : true ≡ false = sym e ∙ (differs word).2 in
    absurd cc

not_quit : (word : ReportWord) (line text : List ℕ) → IsLineOf line word text → IsQuit line → ⊥
not_quit word line text is quit = elim quit [
  | inl is_quit ↦ no_word (codes "quit") refl (ap front is_quit) (differs word).4
  | inr is_exit ↦ no_word (codes "exit") refl (ap front is_exit) (differs word).5
] where
  no_word : (other : List ℕ) → bytes_eq other other ≡ true → front line ≡ other → bytes_eq (word_of word) other ≡ false → ⊥
  no_word other itself same differ =
      let e : bytes_eq (word_of word) other ≡ true =
      ap (λ (l : List ℕ). bytes_eq l other) (sym (line_front word line text is) ∙ same) ∙ itself in
      let no : true ≡ false = sym e ∙ differ in
      absurd cc

-- ---- what follows a word

one_kinds : (report : KindReport) (text : List ℕ) (one other : Kinds) → SaysKinds text one → SaysKinds text other
    → placed_report (reports.Kind report one) ≡ placed_report (reports.Kind report other)
one_kinds report text (these.Of (kinds.Prim one)) (these.Of (kinds.Prim other)) is is_too =
    let e : Some one ≡ Some other = sym is ∙ is_too in
    let same : one ≡ other = cc in
    ap (λ (elem : Basic). reports.Kind report (these.Of (kinds.Prim elem))) same
one_kinds report text (these.Of (kinds.Prim elem)) (these.Of (kinds.Class class)) is is_too =
    let no : Some elem ≡ None = sym is ∙ is_too.0 in absurd cc
one_kinds report text (these.Of (kinds.Prim elem)) (these.Named name) is is_too = let no : Some elem ≡ None = sym is ∙ is_too.0 in absurd cc
one_kinds report text (these.Of (kinds.Class class)) (these.Of (kinds.Prim elem)) is is_too =
    let no : Some elem ≡ None = sym is_too ∙ is.0 in absurd cc
one_kinds report text (these.Named name) (these.Of (kinds.Prim elem)) is is_too = let no : Some elem ≡ None = sym is_too ∙ is.0 in absurd cc
one_kinds report text (these.Of (kinds.Class one)) (these.Of (kinds.Class other)) is is_too =
    ap (λ (class : ℕ). reports.Kind report (these.Of (kinds.Class class))) (sym is.1.1 ∙ is_too.1.1)
one_kinds report text (these.Of (kinds.Class class)) (these.Named name) is is_too = absurd (is_too.1 is.1.0)
one_kinds report text (these.Named name) (these.Of (kinds.Class class)) is is_too = absurd (is.1 is_too.1.0)
one_kinds report text (these.Named one) (these.Named other) is is_too =
    ap (λ (bytes : List ℕ). reports.Kind report (these.Named (record { ref_ptr = (0, 0); now = bytes }))) (is.2 ∙ sym is_too.2)

-- no text is both an identifier and a name
both_said : (follows : Follows) (text : List ℕ) (name : Bor (List ℕ)) → IsIdText text → SaysNode follows text (that.Named name) → ⊥
both_said follow.ClassOrObject text name is says = says.0 is
both_said follow.Nothing text name is says = says
both_said follow.Identifier text name is says = says
both_said follow.ClassOrType text name is says = says

says_text : (follows : Follows) (text : List ℕ) (name : Bor (List ℕ)) → SaysNode follows text (that.Named name) → name.now ≡ text
says_text follow.ClassOrObject text name says = says.1
says_text follow.Nothing text name says = absurd says
says_text follow.Identifier text name says = absurd says
says_text follow.ClassOrType text name says = absurd says

one_node : (follows : Follows) (text : List ℕ) (report : NodeReport) (one other : Node) → SaysNode follows text one
    → SaysNode follows text other
    → placed_report (reports.Node report one) ≡ placed_report (reports.Node report other)
one_node follows text report (that.Identifier one) (that.Identifier other) is is_too =
    ap (λ (id : ℕ). reports.Node report (that.Identifier id)) (sym is.1 ∙ is_too.1)
one_node follows text report (that.Identifier id) (that.Named name) is is_too = absurd (both_said follows text name is.0 is_too)
one_node follows text report (that.Named name) (that.Identifier id) is is_too = absurd (both_said follows text name is_too.0 is)
one_node follows text report (that.Named one) (that.Named other) is is_too =
    ap (λ (bytes : List ℕ). reports.Node report (that.Named (record { ref_ptr = (0, 0); now = bytes })))
    (says_text follows text one is ∙ sym (says_text follows text other is_too))

-- ---- what a word asks with a text behind it

one_asked : (word : ReportWord) (text : List ℕ) (one other : Report) → AsksReport word text one → AsksReport word text other
    → placed_report one ≡ placed_report other
one_asked (words.Heap word) text (reports.Heap one) (reports.Heap other) is is_too = ap reports.Heap (sym is ∙ is_too)
one_asked (words.Kind word) text (reports.Kind one kinds) (reports.Kind other kinds_too) is is_too =
    one_kinds one text kinds kinds_too is.1 is_too.1
    ∙ ap (λ (report : KindReport). placed_report (reports.Kind report kinds_too)) (sym is.0 ∙ is_too.0)
one_asked (words.Node word) text (reports.Node one node) (reports.Node other node_too) is is_too =
    one_node (node_follows word) text one node node_too is.1 is_too.1
    ∙ ap (λ (report : NodeReport). placed_report (reports.Node report node_too)) (sym is.0 ∙ is_too.0)
one_asked (words.Heap word) text (reports.Heap one) (reports.Kind of kind) is is_too = absurd is_too
one_asked (words.Heap word) text (reports.Heap one) (reports.Node other id) is is_too = absurd is_too
one_asked (words.Heap word) text (reports.Kind of kind) other is is_too = absurd is
one_asked (words.Heap word) text (reports.Node one id) other is is_too = absurd is
one_asked (words.Kind word) text (reports.Kind one kind) (reports.Heap other) is is_too = absurd is_too
one_asked (words.Kind word) text (reports.Kind one kind) (reports.Node other id) is is_too = absurd is_too
one_asked (words.Kind word) text (reports.Heap one) other is is_too = absurd is
one_asked (words.Kind word) text (reports.Node one id) other is is_too = absurd is
one_asked (words.Node word) text (reports.Node one id) (reports.Heap other) is is_too = absurd is_too
one_asked (words.Node word) text (reports.Node one id) (reports.Kind of kind) is is_too = absurd is_too
one_asked (words.Node word) text (reports.Heap one) other is is_too = absurd is
one_asked (words.Node word) text (reports.Kind of kind) other is is_too = absurd is

names_id : (word : ReportWord) (text : List ℕ) (report : Report) → AsksReport word text report → follows_of word ≡ follow.Identifier
    → IsIdText text
names_id (words.Node word) text (reports.Node report (that.Identifier id)) is same = is.1.0
names_id (words.Node word) text (reports.Node report (that.Named name)) is same =
    absurd (subst (λ (follows : Follows). SaysNode follows text (that.Named name)) same is.1)
names_id (words.Node word) text (reports.Heap report) is same = absurd is
names_id (words.Node word) text (reports.Kind of kind) is same = absurd is
names_id (words.Heap word) text report is same = absurd cc
names_id (words.Kind word) text report is same = absurd cc

misnames : (word : ReportWord) (text : List ℕ) (report : Report) (fault : Misnamed) → AsksReport word text report
    → IsMisnamed word text fault → ⊥
misnames word text report misnamed.NoIdentifier is fails = fails.1 (names_id word text report is fails.0)

one_misnamed : (word : ReportWord) (text : List ℕ) (one other : Misnamed) → IsMisnamed word text one → IsMisnamed word text other → one
    ≡ other
one_misnamed word text misnamed.NoIdentifier misnamed.NoIdentifier is is_too = refl

one_named : (word : ReportWord) (text : List ℕ) (one other : Question) → IsNamed word text one → IsNamed word text other → IsSame one other
one_named word text (questions.Report one) (questions.Report other) is is_too =
    ap questions.Report (one_asked word text one other is is_too)
one_named word text (questions.Report one) (questions.Misnamed other) is is_too = absurd (misnames word text one other is is_too)
one_named word text (questions.Misnamed one) (questions.Report other) is is_too = absurd (misnames word text other one is_too is)
one_named word text (questions.Misnamed one) (questions.Misnamed other) is is_too =
    ap questions.Misnamed (one_misnamed word text one other is is_too)
one_named word text (questions.Report one) questions.Nothing is is_too = absurd is_too
one_named word text (questions.Report one) questions.Help is is_too = absurd is_too
one_named word text (questions.Report one) questions.Quit is is_too = absurd is_too
one_named word text (questions.Report one) questions.NotUnderstood is is_too = absurd is_too
one_named word text (questions.Misnamed one) questions.Nothing is is_too = absurd is_too
one_named word text (questions.Misnamed one) questions.Help is is_too = absurd is_too
one_named word text (questions.Misnamed one) questions.Quit is is_too = absurd is_too
one_named word text (questions.Misnamed one) questions.NotUnderstood is is_too = absurd is_too
one_named word text questions.Nothing other is is_too = absurd is
one_named word text questions.Help other is is_too = absurd is
one_named word text questions.Quit other is is_too = absurd is
one_named word text questions.NotUnderstood other is is_too = absurd is

-- ---- what the words of a line ask is one thing

-- no report
abbrev Plain : List ℕ → Question → Type 0
Plain line questions.Nothing = line ≡ []
Plain line questions.Help = line ≡ codes "help"
Plain line questions.Quit = IsQuit line
Plain line questions.NotUnderstood =
    (line ≡ [] → ⊥) × (line ≡ codes "help" → ⊥) × (IsQuit line → ⊥) × ((word : ReportWord) (text : List ℕ) → IsLineOf line word text → ⊥)
Plain line other = ⊥

-- a word and what follows it
abbrev OfWord : List ℕ → Question → Type 0
OfWord line question = (word : ReportWord) × (text : List ℕ) × IsLineOf line word text × IsNamed word text question

either : (line : List ℕ) (question : Question) → IsQuestion line question → Plain line question ⊎ OfWord line question
either line questions.Nothing is = inl is
either line questions.Help is = inl is
either line questions.Quit is = inl is
either line questions.NotUnderstood is = inl is
either line (questions.Report report) is = inr is
either line (questions.Misnamed fault) is = inr is

no_help : (line : List ℕ) → line ≡ [] → line ≡ codes "help" → ⊥
no_help line none is = let no : 0 ≡ 104 = ap (λ (l : List ℕ). get_or l 0 0) (sym none ∙ is) in absurd (omega (arith, no))

no_quit : (line : List ℕ) → line ≡ [] → IsQuit line → ⊥
no_quit line none is = elim is [
  | inl quit ↦ let no : 0 ≡ 113 = ap (λ (l : List ℕ). get_or l 0 0) (sym none ∙ quit) in absurd (omega (arith, no))
  | inr exit ↦ let no : 0 ≡ 101 = ap (λ (l : List ℕ). get_or l 0 0) (sym none ∙ exit) in absurd (omega (arith, no))
]

help_no_quit : (line : List ℕ) → line ≡ codes "help" → IsQuit line → ⊥
help_no_quit line help is = elim is [
  | inl quit ↦ let no : 104 ≡ 113 = ap (λ (l : List ℕ). get_or l 0 0) (sym help ∙ quit) in absurd (omega (arith, no))
  | inr exit ↦ let no : 104 ≡ 101 = ap (λ (l : List ℕ). get_or l 0 0) (sym help ∙ exit) in absurd (omega (arith, no))
]

one_plain : (line : List ℕ) (one other : Question) → Plain line one → Plain line other → one ≡ other
one_plain line questions.Nothing questions.Nothing is is_too = refl
one_plain line questions.Nothing questions.Help is is_too = absurd (no_help line is is_too)
one_plain line questions.Nothing questions.Quit is is_too = absurd (no_quit line is is_too)
one_plain line questions.Nothing questions.NotUnderstood is is_too = absurd (is_too.0 is)
one_plain line questions.Help questions.Nothing is is_too = absurd (no_help line is_too is)
one_plain line questions.Help questions.Help is is_too = refl
one_plain line questions.Help questions.Quit is is_too = absurd (help_no_quit line is is_too)
one_plain line questions.Help questions.NotUnderstood is is_too = absurd (is_too.1 is)
one_plain line questions.Quit questions.Nothing is is_too = absurd (no_quit line is_too is)
one_plain line questions.Quit questions.Help is is_too = absurd (help_no_quit line is_too is)
one_plain line questions.Quit questions.Quit is is_too = refl
one_plain line questions.Quit questions.NotUnderstood is is_too = absurd (is_too.2 is)
one_plain line questions.NotUnderstood questions.Nothing is is_too = absurd (is.0 is_too)
one_plain line questions.NotUnderstood questions.Help is is_too = absurd (is.1 is_too)
one_plain line questions.NotUnderstood questions.Quit is is_too = absurd (is.2 is_too)
one_plain line questions.NotUnderstood questions.NotUnderstood is is_too = refl
one_plain line questions.Nothing (questions.Report report) is is_too = absurd is_too
one_plain line questions.Nothing (questions.Misnamed fault) is is_too = absurd is_too
one_plain line questions.Help (questions.Report report) is is_too = absurd is_too
one_plain line questions.Help (questions.Misnamed fault) is is_too = absurd is_too
one_plain line questions.Quit (questions.Report report) is is_too = absurd is_too
one_plain line questions.Quit (questions.Misnamed fault) is is_too = absurd is_too
one_plain line questions.NotUnderstood (questions.Report report) is is_too = absurd is_too
one_plain line questions.NotUnderstood (questions.Misnamed fault) is is_too = absurd is_too
one_plain line (questions.Report report) other is is_too = absurd is
one_plain line (questions.Misnamed fault) other is is_too = absurd is

plain_no_word : (line : List ℕ) (one other : Question) → Plain line one → OfWord line other → ⊥
plain_no_word line questions.Nothing other is (word, text, is_line, named) = some_bytes word line text is_line is
plain_no_word line questions.Help other is (word, text, is_line, named) = not_help word line text is_line is
plain_no_word line questions.Quit other is (word, text, is_line, named) = not_quit word line text is_line is
plain_no_word line questions.NotUnderstood other is (word, text, is_line, named) = is.3 word text is_line
plain_no_word line (questions.Report report) other is it = is
plain_no_word line (questions.Misnamed fault) other is it = is

one_of_word : (line : List ℕ) (one other : Question) → OfWord line one → OfWord line other → IsSame one other
one_of_word line one other (word, text, is_line, named) (word_too, text_too, is_line_too, named_too) =
    let same = one_line line word word_too text text_too is_line is_line_too in
    one_named word_too text_too one other
    (subst (λ (t : List ℕ). IsNamed word_too t one) same.1 (subst (λ (w : ReportWord). IsNamed w text one) same.0 named)) named_too

pub one_question : (line : List ℕ) (one other : Question) → IsQuestion line one → IsQuestion line other → IsSame one other
one_question line one other is is_too = by (either line one is) (either line other is_too) where
  by : Plain line one ⊎ OfWord line one → Plain line other ⊎ OfWord line other → IsSame one other
  by (inl plain) (inl plain_too) = ap placed_question (one_plain line one other plain plain_too)
  by (inl plain) (inr word) = absurd (plain_no_word line one other plain word)
  by (inr word) (inl plain) = absurd (plain_no_word line other one plain word)
  by (inr word) (inr word_too) = one_of_word line one other word word_too

-- a line asks one thing
pub asks_once : (line : List ℕ) (one other : Question) → Asks line one → Asks line other → IsSame one other
asks_once line one other (inl (short, is)) (inl (short_too, is_too)) = one_question line one other is is_too
asks_once line one other (inl (short, is)) (inr (long, is_too)) = absurd (omega arith)
asks_once line one other (inr (long, is)) (inl (short, is_too)) = absurd (omega arith)
asks_once line one other (inr (long, is)) (inr (long_too, is_too)) = ap placed_question (is ∙ sym is_too)
