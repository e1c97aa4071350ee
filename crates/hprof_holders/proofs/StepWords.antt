-- Steps in words, from the texts that stand in them.
use Rattle.std.proofs.Common.{◌≡◌, ℕ, Bool, List, [], ◌++◌, Some, None, ◌∙◌, sym, ap, append_assoc, append-nil, codes}
use Rattle.std.specs.Fmt.{decimal}
use Rattle.hprof_edges.specs.declared.edge.Edge.{Edge}
use Rattle.hprof_naming.specs.Naming.{Naming}
use Rattle.hprof_reports.specs.RefsText.{via_word}
use Rattle.hprof_holders.specs.Steps.{EdgeFindings, name_behind, step_kind, step_text, weak_word}

-- ---- texts in groups

pub three_more : (a b c d : List ℕ) → a ++ (b ++ (c ++ d)) ≡ a ++ b ++ c ++ d
three_more a b c d = sym (append_assoc (a ++ b) c d ∙ append_assoc a b (c ++ d))

pub four_more : (a b c d e : List ℕ) → a ++ (b ++ (c ++ (d ++ e))) ≡ a ++ b ++ c ++ d ++ e
four_more a b c d e = sym (append_assoc (a ++ b ++ c) d e ∙ append_assoc (a ++ b) c (d ++ e) ∙ append_assoc a b (c ++ (d ++ e)))

-- ---- steps

module _ (naming : Naming) (edges : EdgeFindings) (edge : Edge) (is_weak : Bool) (weak_is : is_weak ≡ edges.is_weak edge)
    (weak word : List ℕ) (weak_words : weak ≡ weak_word is_weak) (word_is : word ≡ via_word edge.via) where
  weak_same : weak ≡ weak_word (edges.is_weak edge)
  weak_same = weak_words ∙ ap weak_word weak_is

  -- the words before the place, in front of a text
  front_same : (rest : List ℕ) → weak ++ word ++ rest ≡ weak_word (edges.is_weak edge) ++ via_word edge.via ++ rest
  front_same rest =
      ap (λ (w : List ℕ). w ++ word ++ rest) weak_same ∙ ap (λ (v : List ℕ). weak_word (edges.is_weak edge) ++ v ++ rest) word_is

  behind_name : (name : ℕ) (text : List ℕ) → Some name ≡ edges.name edge → text ≡ naming.name_text name
      → codes " " ++ text ≡ name_behind naming (edges.name edge)
  behind_name name text name_is text_is = ap (λ (t : List ℕ). codes " " ++ t) text_is ∙ ap (name_behind naming) name_is

  -- with its place
  pub named_text : (name : ℕ) (text : List ℕ) → Some name ≡ edges.name edge → text ≡ naming.name_text name
      → weak ++ (word ++ (codes " " ++ (decimal edge.position ++ (codes " " ++ text)))) ≡ step_text naming edges edge
  unfolding step_text
  named_text name text name_is text_is =
      four_more weak word (codes " ") (decimal edge.position) (codes " " ++ text)
      ∙ ap (λ (front : List ℕ). front ++ decimal edge.position ++ (codes " " ++ text)) (front_same (codes " "))
      ∙ ap (λ (t : List ℕ). weak_word (edges.is_weak edge) ++ via_word edge.via ++ codes " " ++ decimal edge.position ++ t)
      (behind_name name text name_is text_is)

  pub plain_text : None ≡ edges.name edge
      → weak ++ (word ++ (codes " " ++ decimal edge.position)) ≡ step_text naming edges edge
  unfolding step_text
  plain_text none =
      let front = weak_word (edges.is_weak edge) ++ via_word edge.via ++ codes " " ++ decimal edge.position in
      three_more weak word (codes " ") (decimal edge.position)
      ∙ ap (λ (text : List ℕ). text ++ decimal edge.position) (front_same (codes " "))
      ∙ sym (append-nil front) ∙ ap (λ (t : List ℕ). front ++ t) (ap (name_behind naming) none)

  -- without it
  pub named_kind : (name : ℕ) (text : List ℕ) → Some name ≡ edges.name edge → text ≡ naming.name_text name
      → weak ++ (word ++ (codes " " ++ text)) ≡ step_kind naming edges edge
  unfolding step_kind
  named_kind name text name_is text_is =
      sym (append_assoc weak word (codes " " ++ text)) ∙ front_same (codes " " ++ text)
      ∙ ap (λ (t : List ℕ). weak_word (edges.is_weak edge) ++ via_word edge.via ++ t) (behind_name name text name_is text_is)

  pub plain_kind : None ≡ edges.name edge → weak ++ word ≡ step_kind naming edges edge
  unfolding step_kind
  plain_kind none =
      sym (append-nil (weak ++ word)) ∙ front_same []
      ∙ ap (λ (t : List ℕ). weak_word (edges.is_weak edge) ++ via_word edge.via ++ t) (ap (name_behind naming) none)
