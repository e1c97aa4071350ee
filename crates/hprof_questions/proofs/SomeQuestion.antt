-- Each line asks something.
use Rattle.std.proofs.Common.{◌≡◌, ◌≢◌, ◌⊎◌, ℕ, ◌<◌, ltb, Bool, true, false, List, [], ◌∷◌, ◌++◌, length, refl, sym, ap, ◌∙◌, inl, inr}
use Rattle.std.proofs.Common.{arith, get_or, drop, codes, subst, append_assoc}
use Rattle.std.specs.Prelude.{Option, Some, None}
use Rattle.std.specs.Borrow.{Bor}
use Rattle.std.specs.Char.{digit_value}
use Rattle.std.specs.List.{AllByRecursion}
use Rattle.std.specs.Str.Parse.{AllDigits}
use Rattle.std.proofs.lemmas.Bool.{ltb-true, ltb-false}
use Rattle.std.proofs.lemmas.List.{append_cancel_left}
use Rattle.std.proofs.lemmas.Bool.Decides.{eqb_tells}
use Rattle.hprof_text.specs.Identifier.{IsIdText, id_value}
use Rattle.hprof_values.specs.declared.basic.Basic.{Basic}
use Rattle.hprof_histogram.specs.declared.row.Kind.TheVariants as kinds
use Rattle.hprof_naming.specs.TypeNames.{arrays_named}
use Rattle.hprof_questions.specs.declared.report.Kinds.{Kinds}
use Rattle.hprof_questions.specs.declared.report.Kinds.TheVariants as these
use Rattle.hprof_questions.specs.declared.report.Node.TheVariants as that
use Rattle.hprof_questions.specs.declared.report.NodeReport.{NodeReport}
use Rattle.hprof_questions.specs.declared.report.NodeReport.TheVariants as nodes
use Rattle.hprof_questions.specs.declared.report.Report.TheVariants as reports
use Rattle.hprof_questions.specs.declared.report_word.Follows.{Follows}
use Rattle.hprof_questions.specs.declared.report_word.Follows.TheVariants as follow
use Rattle.hprof_questions.specs.declared.report_word.ReportWord.{ReportWord}
use Rattle.hprof_questions.specs.declared.report_word.ReportWord.TheVariants as words
use Rattle.hprof_questions.specs.declared.subject.Misnamed.TheVariants as misnamed
use Rattle.hprof_questions.specs.declared.question.Question.{Question}
use Rattle.hprof_questions.specs.declared.question.Question.TheVariants as questions
use Rattle.hprof_questions.specs.Asked.{Asks, IsFollowed, IsLineOf, IsNamed, IsQuestion, IsQuit, IsWord, SaysKinds, SaysNode}
use Rattle.hprof_questions.proofs.WordLists.{of_each}
use Rattle.hprof_questions.specs.Words.{all_words, follows_of, node_follows, word_of}

-- ---- what holds, or does not

below : (n m : ℕ) → (n < m) ⊎ ((n < m) → ⊥)
below n m = by (ltb n m) refl where
  by : (test : Bool) → ltb n m ≡ test → (n < m) ⊎ ((n < m) → ⊥)
  by true e = inl (ltb-true n m e)
  by false e = inr (λ less. absurd (omega (arith, less, ltb-false n m e)))

equal : (n m : ℕ) → (n ≡ m) ⊎ (n ≢ m)
equal n m = elim (eqb_tells n m) [ inl is ↦ inl is.1 | inr is ↦ inr is.1 ]

same : (one other : List ℕ) → (one ≡ other) ⊎ (one ≢ other)
same [] [] = inl refl
same [] (y ∷ ys) = inr (λ e. absurd cc)
same (x ∷ xs) [] = inr (λ e. absurd cc)
same (x ∷ xs) (y ∷ ys) = elim (equal x y) [
  | inl first ↦ elim (same xs ys) [
    | inl rest ↦ inl (λ i. first i ∷ rest i)
    | inr fails ↦ inr (λ e. fails (ap (drop 1) e))
  ]
  | inr fails ↦ inr (λ e. fails (ap (λ (l : List ℕ). get_or l 0 0) e))
]

begins : (front line : List ℕ) → ((rest : List ℕ) × (line ≡ front ++ rest)) ⊎ ((rest : List ℕ) → line ≢ front ++ rest)
begins [] line = inl (line, refl)
begins (x ∷ front) [] = inr (λ rest e. absurd cc)
begins (x ∷ front) (y ∷ line) = elim (equal y x) [
  | inl first ↦ elim (begins front line) [
    | inl rest ↦ inl (rest.0, λ i. first i ∷ rest.1 i)
    | inr fails ↦ inr (λ rest e. fails rest (ap (drop 1) e))
  ]
  | inr fails ↦ inr (λ rest e. fails (ap (λ (l : List ℕ). get_or l 0 0) e))
]

no_space : (text : List ℕ) → AllByRecursion (λ byte. byte ≢ 32) text ⊎ (AllByRecursion (λ byte. byte ≢ 32) text → ⊥)
no_space [] = inl tt
no_space (byte ∷ text) = elim (equal byte 32) [
  | inl space ↦ inr (λ all. all.0 space)
  | inr fails ↦ elim (no_space text) [ inl all ↦ inl (fails, all) | inr some ↦ inr (λ all. some all.1) ]
]

word : (text : List ℕ) → IsWord text ⊎ (IsWord text → ⊥)
word text = elim (below 0 (length text)) [
  | inl some ↦ elim (no_space text) [
    | inl all ↦ inl (record { some = some; no_space = all })
    | inr fails ↦ inr (λ is. fails is.no_space)
  ]
  | inr none ↦ inr (λ is. none is.some)
]

digits : (text : List ℕ) → AllDigits 16 text ⊎ (AllDigits 16 text → ⊥)
digits [] = inl tt
digits (c ∷ text) = elim (below (digit_value c) 16) [
  | inl first ↦ elim (digits text) [ inl all ↦ inl (first, all) | inr fails ↦ inr (λ all. fails all.1) ]
  | inr fails ↦ inr (λ all. fails all.0)
]

identifier : (text : List ℕ) → IsIdText text ⊎ (IsIdText text → ⊥)
identifier text = elim (below 0 (length text)) [
  | inl some ↦ elim (digits text) [
    | inl all ↦ elim (below (length text) 17) [
      | inl few ↦ inl (record { digits = (some, all); at_most_sixteen = omega (arith, few) })
      | inr many ↦ inr (λ is. many (omega (arith, is.at_most_sixteen)))
    ]
    | inr fails ↦ inr (λ is. fails is.digits.1)
  ]
  | inr none ↦ inr (λ is. none is.digits.0)
]

-- bytes, at some place
abbrev bytes_at : List ℕ → Bor (List ℕ)
bytes_at text = record { ref_ptr = (0, 0); now = text }

kinds_said : (text : List ℕ) → (which : Kinds) × SaysKinds text which
kinds_said text = by (arrays_named text) refl (identifier text) where
  by : (found : Option Basic) → arrays_named text ≡ found → IsIdText text ⊎ (IsIdText text → ⊥) → (which : Kinds) × SaysKinds text which
  by (Some elem) e id = (these.Of (kinds.Prim elem), e)
  by None e (inl is) = (these.Of (kinds.Class (id_value text)), (e, (is, refl)))
  by None e (inr fails) = (these.Named (bytes_at text), (e, fails, refl))

-- ---- what a word asks

module _ (text : List ℕ) where
  of_identifier : (report : NodeReport) → node_follows report ≡ follow.Identifier
      → (question : Question) × IsNamed (words.Node report) text question
  of_identifier report follows = elim (identifier text) [
    | inl is ↦ (questions.Report (reports.Node report (that.Identifier (id_value text))), (refl, (is, refl)))
    | inr fails ↦ (questions.Misnamed misnamed.NoIdentifier, (follows, fails))
  ]

  of_name : (report : NodeReport) → node_follows report ≡ follow.ClassOrObject
      → (question : Question) × IsNamed (words.Node report) text question
  of_name report follows = elim (identifier text) [
    | inl is ↦ (questions.Report (reports.Node report (that.Identifier (id_value text))), (refl, (is, refl)))
    | inr fails ↦ (
      questions.Report (reports.Node report (that.Named (bytes_at text))),
      (refl, subst (λ (after : Follows). SaysNode after text (that.Named (bytes_at text))) (sym follows) (fails, refl)),
    )
  ]

  named : (word : ReportWord) → (question : Question) × IsNamed word text question
  named (words.Heap report) = (questions.Report (reports.Heap report), refl)
  named (words.Node nodes.Show) = of_name nodes.Show refl
  named (words.Node nodes.Why) = of_name nodes.Why refl
  named (words.Node nodes.Who) = of_name nodes.Who refl
  named (words.Node nodes.Keeps) = of_name nodes.Keeps refl
  named (words.Node nodes.Text) = of_identifier nodes.Text refl
  named (words.Node nodes.Object) = of_identifier nodes.Object refl
  named (words.Node nodes.Refs) = of_identifier nodes.Refs refl
  named (words.Node nodes.Path) = of_identifier nodes.Path refl
  named (words.Kind report) = let it = kinds_said text in (questions.Report (reports.Kind report it.0), (refl, it.1))

-- ---- what a line asks

spaced : (line name : List ℕ) → ((text : List ℕ) × (IsWord text × (line ≡ name ++ 32 ∷ text)))
    ⊎ ((text : List ℕ) → IsWord text → line ≢ name ++ 32 ∷ text)
spaced line name = elim (begins (name ++ 32 ∷ []) line) [
  | inl it ↦ elim (word it.0) [
    | inl is ↦ inl (it.0, (is, it.1 ∙ append_assoc name (32 ∷ []) it.0))
    | inr fails ↦ inr (λ text is same. fails (subst IsWord (one_behind text it.0 same it.1) is))
  ]
  | inr fails ↦ inr (λ text is same. fails text (same ∙ sym (append_assoc name (32 ∷ []) text)))
] where
  one_behind : (text other : List ℕ) → line ≡ name ++ 32 ∷ text → line ≡ (name ++ 32 ∷ []) ++ other → text ≡ other
  one_behind text other e f = append_cancel_left (name ++ 32 ∷ []) text other (append_assoc name (32 ∷ []) text ∙ sym e ∙ f)

followed : (follows : Follows) (line name : List ℕ) → ((text : List ℕ) × IsFollowed follows line name text)
    ⊎ ((text : List ℕ) → IsFollowed follows line name text → ⊥)
followed follow.Nothing line name = elim (same line name) [
  | inl is ↦ inl ([], (is, refl))
  | inr fails ↦ inr (λ text is. fails is.0)
]
followed follow.Identifier line name = elim (spaced line name) [ inl it ↦ inl it | inr fails ↦ inr (λ text is. fails text is.0 is.1) ]
followed follow.ClassOrObject line name = elim (spaced line name) [ inl it ↦ inl it | inr fails ↦ inr (λ text is. fails text is.0 is.1) ]
followed follow.ClassOrType line name = elim (spaced line name) [ inl it ↦ inl it | inr fails ↦ inr (λ text is. fails text is.0 is.1) ]

-- of each word it is asked
module _ (P : ReportWord → Type 0) (either : (word : ReportWord) → P word ⊎ (P word → ⊥)) where
  among : (some : List ReportWord) → ((word : ReportWord) × P word) ⊎ AllByRecursion (λ word. P word → ⊥) some
  among [] = inr tt
  among (word ∷ rest) = elim (either word) [
    | inl is ↦ inl (word, is)
    | inr fails ↦ elim (among rest) [ inl it ↦ inl it | inr none ↦ inr (fails, none) ]
  ]

of_word : (line : List ℕ) (word : ReportWord) (text : List ℕ) → IsLineOf line word text
    → (question : Question) → IsNamed word text question → (question : Question) × IsQuestion line question
of_word line word text is (questions.Report report) asks = (questions.Report report, (word, text, is, asks))
of_word line word text is (questions.Misnamed fault) asks = (questions.Misnamed fault, (word, text, is, asks))
of_word line word text is questions.Nothing asks = absurd asks
of_word line word text is questions.Help asks = absurd asks
of_word line word text is questions.Quit asks = absurd asks
of_word line word text is questions.NotUnderstood asks = absurd asks

of_words : (line : List ℕ) → line ≢ [] → line ≢ codes "help" → (IsQuit line → ⊥) → (question : Question) × IsQuestion line question
of_words line some no_help no_quit =
    let P = λ (word : ReportWord). (text : List ℕ) × IsLineOf line word text in
    elim (among P (λ word. listed word (followed (follows_of word) line (word_of word))) all_words) [
      | inl it ↦ let asks = named it.1.0 it.0 in of_word line it.0 it.1.0 it.1.1 asks.0 asks.1
      | inr none ↦ (
        questions.NotUnderstood,
        (
          some,
          no_help,
          no_quit,
          λ word text is. of_each (λ other. P other → ⊥) none word (text, is),
        ),
      )
    ] where
      listed : (word : ReportWord) → ((text : List ℕ) × IsLineOf line word text) ⊎ ((text : List ℕ) → IsLineOf line word text → ⊥)
          → ((text : List ℕ) × IsLineOf line word text) ⊎ (((text : List ℕ) × IsLineOf line word text) → ⊥)
      listed word (inl it) = inl it
      listed word (inr fails) = inr (λ it. fails it.0 it.1)

quit : (line : List ℕ) → IsQuit line ⊎ (IsQuit line → ⊥)
quit line = elim (same line (codes "quit")) [
  | inl is ↦ inl (inl is)
  | inr no_quit ↦ elim (same line (codes "exit")) [
    | inl is ↦ inl (inr is)
    | inr no_exit ↦ inr (λ is. elim is [ inl one ↦ no_quit one | inr other ↦ no_exit other ])
  ]
]

some_words : (line : List ℕ) → (question : Question) × IsQuestion line question
some_words line = elim (same line []) [
  | inl is ↦ (questions.Nothing, is)
  | inr some ↦ elim (same line (codes "help")) [
    | inl is ↦ (questions.Help, is)
    | inr no_help ↦ elim (quit line) [ inl is ↦ (questions.Quit, is) | inr no_quit ↦ of_words line some no_help no_quit ]
  ]
]

pub some_question : (line : List ℕ) → (question : Question) × Asks line question
some_question line = by (ltb 4096 (length line)) refl where
  by : (test : Bool) → ltb 4096 (length line) ≡ test → (question : Question) × Asks line question
  by true e = (questions.NotUnderstood, inr (ltb-true 4096 (length line) e, refl))
  by false e = let it = some_words line in (it.0, inl (ltb-false 4096 (length line) e, it.1))
