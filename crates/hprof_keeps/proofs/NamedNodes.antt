-- The words for nodes in a heap of few objects are those in the whole.
use Rattle.std.specs.Prelude.{◌↔◌, Contains, IsTrue}
use Rattle.std.specs.List.{flat_map}
use Rattle.std.proofs.Common.{◌≡◌, ℕ, List, [], ◌∷◌, ◌++◌, codes, inl, inr, refl, sym, ap, subst}
use Rattle.std.proofs.lemmas.List.Elements.{Contains-append_left, Contains-append_right}
use Rattle.hprof_values.specs.declared.ids.IdSize.{IdSize}
use Rattle.hprof_items.specs.FactValue.{FactValue}
use Rattle.hprof_rows.proofs.Order.{order_agrees}
use Rattle.hprof_heap.specs.Classes.{fact_of_class}
use Rattle.hprof_heap.specs.declared.heap.Heap.{Heap}
use Rattle.hprof_heap.specs.HeapFacts.{facts_of, size_of}
use Rattle.hprof_histogram.specs.Chosen.{is_among}
use Rattle.hprof_histogram.proofs.Members.{Contains-from_in, IsIn}
use Rattle.hprof_passes.specs.Passing.{IsWhole}
use Rattle.hprof_reach.specs.Reaching.{IsDumped}
use Rattle.hprof_small.specs.Small.{IsSmall}
use Rattle.hprof_small.proofs.SmallHas.{dump_kept, object_kept, small_has}
use Rattle.hprof_describe.specs.Findings.{AreFindings, Findings}
use Rattle.hprof_describe.specs.Nodes.{node_text}
use Rattle.hprof_describe.proofs.OneFinding.{findings_exist}
use Rattle.hprof_retained.specs.Retained.{Sum}
use Rattle.hprof_retained.specs.Tree.{IsTreeOf, total_of}
use Rattle.hprof_retained.specs.declared.retained.Retained.{Retained}
use Rattle.hprof_words.specs.Words.{IsWordsHeap}
use Rattle.hprof_words.proofs.Among.{among_of_contains}
use Rattle.hprof_words.proofs.WordsInAll.{node_in_all}
use Rattle.hprof_keeps.specs.Kept.{IsKept, IsNamedHeap, above_places, below_places, kept_text, nodes_at}
use Rattle.hprof_keeps.specs.KeepsText.{IsKeepsText, above_lines, child_lines, retained_line, sum_words, total_line, weakly_line}
use Rattle.hprof_keeps.specs.Order.{retained_in}
use Rattle.hprof_keeps.specs.WeakSum.{sum_of}
use Rattle.hprof_keeps.specs.declared.kept.Kept.{Kept}
use Rattle.hprof_keeps.specs.declared.kept.Kept.TheVariants as kept
use Rattle.hprof_keeps.proofs.Texts.{keeps_told}

-- ---- whether there is a dump

-- an object that is wanted has a dump in the small heap exactly if it has one
pub dumped_in_small : (ids : IdSize) (wanted : List ℕ) (all small : List FactValue) → IsSmall ids wanted all small → (id : ℕ)
    → IsTrue (is_among wanted id) → IsDumped small id ↔ IsDumped all id
dumped_in_small ids wanted all small is id among = (
  λ dumped. elim dumped [
    | inl class ↦ inl (class.0, small_has ids wanted all small is (fact_of_class class.0) class.1, class.2)
    | inr object ↦ inr (object.0, small_has ids wanted all small is object.0 object.1, object.2)
  ],
  λ dumped. elim dumped [
    | inl class ↦ inl (class.0, dump_kept ids wanted all small is class.0 class.1, class.2)
    | inr object ↦ inr (object.0, object_kept ids wanted all small is id among object.0 object.2 object.1, object.2)
  ],
)

-- ---- lines

module _ (one other : Findings) (sums : ℕ → Sum) where
  -- a node with the same words has the same line
  line_same : (node : ℕ) → node_text one node ≡ node_text other node → retained_line one sums node ≡ retained_line other sums node
  unfolding retained_line
  line_same node same = ap (λ (text : List ℕ). sum_words (sums node) ++ codes " " ++ text ++ codes "\n") same

  pub lines_same : (front nodes : List ℕ) → ((node : ℕ) → IsIn node nodes → node_text one node ≡ node_text other node)
      → flat_map (λ node. front ++ retained_line one sums node) nodes ≡ flat_map (λ node. front ++ retained_line other sums node) nodes
  lines_same front [] same = refl
  lines_same front (node ∷ nodes) same =
      let first = ap (λ (line : List ℕ). front ++ line) (line_same node (same node (inl refl))) in
      let rest = lines_same front nodes (λ later has. same later (inr has)) in
      λ i. first i ++ rest i

-- ---- nodes in a sorted list

module _ (none some more first second sorted : List ℕ) (one : first ≡ none ++ some) (two : second ≡ first ++ more)
    (same : (node : ℕ) → Contains sorted node ↔ Contains second node) where
  pub first_there : (node : ℕ) → Contains some node → Contains sorted node
  first_there node has = (same node).1 (subst (λ (l : List ℕ). Contains l node) (sym two) (Contains-append_left first more node
      (subst (λ (l : List ℕ). Contains l node) (sym one) (Contains-append_right none some node has))))

  pub second_there : (node : ℕ) → Contains more node → Contains sorted node
  second_there node has =
      (same node).1 (subst (λ (l : List ℕ). Contains l node) (sym two) (Contains-append_right first more node has))

-- ---- a heap of few objects

module _ (ids : IdSize) (all : List FactValue) (small : Heap) where
  -- it has the words for two lists of nodes that are all wanted
  pub named_heap_of : (millis : ℕ) (nodes some more : List ℕ) → ((node : ℕ) → Contains some node → Contains nodes node)
      → ((node : ℕ) → Contains more node → Contains nodes node) → IsWordsHeap millis ids nodes all small
      → IsNamedHeap ids some more all small
  named_heap_of millis nodes some more some_there more_there is = record {
    size = is.is_small.size;
    wanted = is.wanted;
    facts = is.is_small.facts;
    some_words = λ node there. is.has node (among_of_contains nodes node (some_there node there));
    more_words = λ node there. is.has node (among_of_contains nodes node (more_there node there));
  }

  module _ (facts : List FactValue) (whole : IsWhole ids facts all) (some more : List ℕ) (is : IsNamedHeap ids some more all small)
      (found here : Findings) (are : AreFindings ids all found) (too : AreFindings ids (facts_of small) here) where
    some_is : (node : ℕ) → Contains some node → node_text here node ≡ node_text found node
    some_is node there = node_in_all ids is.wanted all (facts_of small) (order_agrees all whole.ordered) is.facts here found too are node
        (is.some_words node there)

    more_is : (node : ℕ) → Contains more node → node_text here node ≡ node_text found node
    more_is node there = node_in_all ids is.wanted all (facts_of small) (order_agrees all whole.ordered) is.facts here found too are node
        (is.more_words node there)

    pub some_lines : (sums : ℕ → Sum) → above_lines here sums some ≡ above_lines found sums some
    some_lines sums = lines_same here found sums [] some (λ node has. some_is node (Contains-from_in some node has))

    pub more_lines : (sums : ℕ → Sum) → child_lines here sums more ≡ child_lines found sums more
    more_lines sums = lines_same here found sums (codes "  ") more (λ node has. more_is node (Contains-from_in more node has))

-- ---- the report

module _ (ids : IdSize) (facts all : List FactValue) (whole : IsWhole ids facts all) (small : Heap) (retained : Retained) (id : ℕ) where
  text_in_small : (told : Kept)
      → (is : IsNamedHeap ids (nodes_at retained (above_places told)) (nodes_at retained (below_places told)) all small)
      → (found here : Findings) → AreFindings ids all found → AreFindings ids (facts_of small) here
      → kept_text here retained id told ≡ kept_text found retained id told
  text_in_small (kept.Roots weakly below) is found here are too =
      ap (λ (lines : List ℕ). total_line (total_of retained) ++ (weakly_line (sum_of weakly) ++ lines))
      (more_lines ids all small facts whole [] (nodes_at retained below.items) is found here are too (retained_in retained))
  text_in_small (kept.Held above below) is found here are too =
      let some = nodes_at retained above.items in
      let more = nodes_at retained below.items in
      let above_is = some_lines ids all small facts whole some more is found here are too (retained_in retained) in
      let below_is = more_lines ids all small facts whole some more is found here are too (retained_in retained) in
      λ i. total_line (total_of retained) ++ (above_is i ++ below_is i)
  text_in_small kept.Weakly is found here are too = refl
  text_in_small kept.Nowise is found here are too = refl
  text_in_small kept.Nothing is found here are too = refl

  -- what is written from the small heap is the report on the whole
  pub keeps_over : (told : Kept) (P : List ℕ → Type 0) → IsTreeOf ids all retained → IsKept ids all retained id told
      → IsNamedHeap ids (nodes_at retained (above_places told)) (nodes_at retained (below_places told)) all small
      → ((here : Findings) → AreFindings (size_of small) (facts_of small) here → P (kept_text here retained id told))
      → (text : List ℕ) × IsKeepsText ids all id text × P text
  keeps_over told P tree kept is writes =
      let agree = order_agrees all whole.ordered in
      let found = findings_exist ids all agree in
      let here = findings_exist ids (facts_of small) (order_agrees (facts_of small) is.facts.whole.ordered) in
      let writes_here = subst (λ (i : IdSize). (f : Findings) → AreFindings i (facts_of small) f → P (kept_text f retained id told)) is.size
      writes in (
        kept_text found.0 retained id told,
        keeps_told ids all agree found.0 found.1 retained tree id told kept,
        subst P (text_in_small told is found.0 here.0 found.1 here.1) (writes_here here.0 here.1),
      )
