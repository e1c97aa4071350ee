-- The report `who` of two findings that say the same of each object and each edge which it names.
use Rattle.std.specs.Prelude.{◌==◌, ◌⊎◌, if◌then◌else◌}
use Rattle.std.proofs.Common.{◌≡◌, ℕ, Bool, List, [], ◌∷◌, ◌++◌, map, Option, Some, None, codes, inl, inr, refl, sym, ap, ◌∙◌}
use Rattle.std.specs.Fmt.{decimal}
use Rattle.std.specs.List.{AllByRecursion, flat_map}
use Rattle.std.proofs.lemmas.Bool.{eq-eqb}
use Rattle.hprof_values.specs.declared.root.Root.{Root}
use Rattle.hprof_edges.specs.declared.edge.Edge.{Edge}
use Rattle.hprof_naming.specs.Naming.{Naming}
use Rattle.hprof_reports.specs.RefsText.{via_word}
use Rattle.hprof_threads.specs.Serials.{thread_of_root}
use Rattle.hprof_describe.specs.Findings.{Findings}
use Rattle.hprof_describe.specs.Nodes.{node_text}
use Rattle.hprof_holders.specs.RootLines.{root_line}
use Rattle.hprof_holders.specs.RootsText.{frame_of_root, frame_words_of, object_words, root_text, roots_text, thread_line, words_line}
use Rattle.hprof_holders.specs.Steps.{EdgeFindings, name_behind, step_kind, step_text, weak_word}
use Rattle.hprof_holders.specs.Sums.{SumValue}
use Rattle.hprof_holders.specs.ThreadFindings.{ThreadFindings}
use Rattle.hprof_holders.specs.WhoText.{edge_kind, edge_line, none_line, referred_text, sums_text, who_text}

-- ---- steps, where the name is the same, and both are weak or both strong

module _ (one other : EdgeFindings) (edge : Edge) (name : one.name edge ≡ other.name edge) (weak : one.is_weak edge ≡ other.is_weak edge)
    (naming : Naming) where
  pub step_same : step_text naming one edge ≡ step_text naming other edge
  unfolding step_text
  step_same =
      ap (λ (w : Bool). weak_word w ++ via_word edge.via ++ codes " " ++ decimal edge.position ++ name_behind naming (one.name edge)) weak
      ∙ ap (λ (n : Option ℕ). weak_word (other.is_weak edge) ++ via_word edge.via ++ codes " " ++ decimal edge.position
      ++ name_behind naming n) name

  pub step_kind_same : step_kind naming one edge ≡ step_kind naming other edge
  unfolding step_kind
  step_kind_same =
      ap (λ (w : Bool). weak_word w ++ via_word edge.via ++ name_behind naming (one.name edge)) weak
      ∙ ap (λ (n : Option ℕ). weak_word (other.is_weak edge) ++ via_word edge.via ++ name_behind naming n) name

-- ---- roots

module _ (one other : Findings) (threads : ThreadFindings) where
  -- the object of the thread, if it has one, is told in the same words
  abbrev pub SameThreadObject : ℕ → Type 0
  SameThreadObject serial =
      (threads.object serial ≡ 0) ⊎ (node_text one (threads.object serial) ≡ node_text other (threads.object serial))

  words_same : (object : ℕ) → (object ≡ 0) ⊎ (node_text one object ≡ node_text other object)
      → object_words one object ≡ object_words other object
  words_same object (inl zero) =
      let none = eq-eqb object 0 zero in
      ap (λ (b : Bool). if b then None else Some (node_text one object)) none
      ∙ sym (ap (λ (b : Bool). if b then None else Some (node_text other object)) none)
  words_same object (inr same) = ap (λ (words : List ℕ). if object == 0 then None else Some words) same

  line_same : (root : Root) (thread : Option ℕ) → ((serial : ℕ) → thread ≡ Some serial → SameThreadObject serial)
      → thread_line one threads root thread ≡ thread_line other threads root thread
  line_same root None same = refl
  line_same root (Some serial) same =
      ap (λ (words : Option (List ℕ)). words_line words (frame_words_of threads serial (frame_of_root root)))
      (words_same (threads.object serial) (same serial refl))

  -- and so it is of each root
  abbrev pub SameRoot : Root → Type 0
  SameRoot root = (serial : ℕ) → thread_of_root root ≡ Some serial → SameThreadObject serial

  pub roots_same : (roots : List Root) → AllByRecursion SameRoot roots → roots_text one threads roots ≡ roots_text other threads roots
  unfolding root_text
  roots_same [] all = refl
  roots_same (root ∷ roots) all =
      ap (λ (line : List ℕ). root_line root ++ line ++ roots_text one threads roots) (line_same root (thread_of_root root) all.0)
      ∙ ap (λ (lines : List ℕ). root_line root ++ thread_line other threads root (thread_of_root root) ++ lines) (roots_same roots all.1)

-- ---- edges

module _ (one other : Findings) (names others : EdgeFindings) where
  -- the line of the edge is the same, and its kind
  abbrev pub SameEdge : Edge → Type 0
  SameEdge edge = (edge_line one names edge ≡ edge_line other others edge) × (edge_kind one names edge ≡ edge_kind other others edge)

  pub lines_same : (edges : List Edge) → AllByRecursion SameEdge edges
      → flat_map (edge_line one names) edges ≡ flat_map (edge_line other others) edges
  lines_same [] all = refl
  lines_same (edge ∷ edges) all =
      ap (λ (line : List ℕ). line ++ flat_map (edge_line one names) edges) all.0.0
      ∙ ap (λ (lines : List ℕ). edge_line other others edge ++ lines) (lines_same edges all.1)

  pub kinds_same : (edges : List Edge) → AllByRecursion SameEdge edges
      → map (edge_kind one names) edges ≡ map (edge_kind other others) edges
  kinds_same [] all = refl
  kinds_same (edge ∷ edges) all =
      ap (λ (kind : List ℕ). kind ∷ map (edge_kind one names) edges) all.0.1
      ∙ ap (λ (kinds : List (List ℕ)). edge_kind other others edge ∷ kinds) (kinds_same edges all.1)

  -- ---- the report

  module _ (threads : ThreadFindings) (id : ℕ) (sums : List SumValue) where
    referred_same : (roots : List Root) (edges : List Edge) → roots_text one threads roots ≡ roots_text other threads roots
        → AllByRecursion SameEdge edges
        → referred_text one threads names roots edges sums ≡ referred_text other threads others roots edges sums
    unfolding referred_text
    referred_same roots edges roots_are all =
        ap (λ (text : List ℕ). text ++ sums_text edges sums ++ flat_map (edge_line one names) edges) roots_are
        ∙ ap (λ (lines : List ℕ). roots_text other threads roots ++ sums_text edges sums ++ lines) (lines_same edges all)

    pub who_same : (roots : List Root) (edges : List Edge) → roots_text one threads roots ≡ roots_text other threads roots
        → AllByRecursion SameEdge edges
        → none_line id (one.class id) (one.object id) ≡ none_line id (other.class id) (other.object id)
        → who_text one threads names id roots edges sums ≡ who_text other threads others id roots edges sums
    who_same [] [] roots_are all none = none
    who_same (root ∷ roots) edges roots_are all none = referred_same (root ∷ roots) edges roots_are all
    who_same [] (edge ∷ edges) roots_are all none = referred_same [] (edge ∷ edges) roots_are all
