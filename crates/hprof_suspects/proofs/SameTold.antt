-- The report is the same with the words of a small heap that has all objects which they are read from.
use Rattle.std.specs.Prelude.{Contains, map, take, drop, if◌then◌else◌, nat_lt}
use Rattle.std.specs.Fmt.{decimal}
use Rattle.std.specs.List.{flat_map}
use Rattle.std.proofs.Common.{◌≡◌, ◌-◌, ◌++◌, ◌∙◌, ℕ, zero, suc, List, [], ◌∷◌, codes, length, refl, sym, ap, subst, inl, inr}
use Rattle.std.proofs.lemmas.List.Concat.{flat_map-cons}
use Rattle.std.proofs.lemmas.List.Elements.{Contains-append_left, Contains-append_right}
use Rattle.hprof_values.specs.declared.ids.IdSize.{IdSize}
use Rattle.hprof_items.specs.FactValue.{FactValue}
use Rattle.hprof_rows.proofs.Order.{order_agrees}
use Rattle.hprof_heap.specs.declared.heap.Heap.{Heap}
use Rattle.hprof_heap.specs.HeapFacts.{facts_of, size_of}
use Rattle.hprof_histogram.proofs.Members.{Contains-from_in, IsIn}
use Rattle.hprof_passes.specs.Passing.{IsWhole}
use Rattle.hprof_describe.specs.Findings.{AreFindings, Findings}
use Rattle.hprof_describe.specs.Nodes.{node_text}
use Rattle.hprof_describe.proofs.OneFinding.{findings_exist}
use Rattle.hprof_words.proofs.WordsInAll.{node_in_all}
use Rattle.hprof_retained.specs.Retained.{Sum}
use Rattle.hprof_retained.specs.Tree.{total_of}
use Rattle.hprof_retained.specs.declared.retained.Retained.{Retained}
use Rattle.hprof_keeps.specs.KeepsText.{above_lines, retained_line, sum_words, total_line, weakly_line}
use Rattle.hprof_keeps.specs.Order.{retained_in}
use Rattle.hprof_keeps.specs.WeakSum as weak
use Rattle.hprof_keeps.specs.declared.weakly.WeakSum.{WeakSum}
use Rattle.hprof_by_label.specs.declared.node_labels.NodeLabels.{NodeLabels}
use Rattle.hprof_suspects.specs.LabelSums.{sum_of}
use Rattle.hprof_suspects.specs.SuspectsText.{IsSuspectsText, chain_lines, piece_line, suspect_line}
use Rattle.hprof_suspects.specs.Told.{nodes_of, report_text, told_text}
use Rattle.hprof_suspects.specs.ToldHeaps.{AreFoundOut, IsToldHeap, named_nodes}
use Rattle.hprof_suspects.specs.declared.found_out.FoundOut.{FoundOut}
use Rattle.hprof_suspects.specs.declared.told.Told.{Told}
use Rattle.hprof_suspects.proofs.ToldTexts.{report_is}

module _ (one other : Findings) (retained : ℕ → Sum) where
  line_same : (node : ℕ) → node_text one node ≡ node_text other node → retained_line one retained node ≡ retained_line other retained node
  unfolding retained_line
  line_same node same = ap (λ (t : List ℕ). sum_words (retained node) ++ codes " " ++ t ++ codes "\n") same

  lines_same : (nodes : List ℕ) → ((node : ℕ) → IsIn node nodes → node_text one node ≡ node_text other node)
      → above_lines one retained nodes ≡ above_lines other retained nodes
  lines_same [] each = refl
  lines_same (node ∷ nodes) each =
      flat_map-cons (retained_line one retained) node nodes
      ∙ (λ i. line_same node (each node (inl refl)) i ++ lines_same nodes (λ n on. each n (inr on)) i)
      ∙ sym (flat_map-cons (retained_line other retained) node nodes)

  in_take : (count : ℕ) (nodes : List ℕ) (node : ℕ) → IsIn node (take count nodes) → IsIn node nodes
  in_take zero nodes node on = absurd on
  in_take (suc count) [] node on = absurd on
  in_take (suc count) (first ∷ nodes) node on = elim on [ inl same ↦ inl same | inr later ↦ inr (in_take count nodes node later) ]

  in_drop : (count : ℕ) (nodes : List ℕ) (node : ℕ) → IsIn node (drop count nodes) → IsIn node nodes
  in_drop zero nodes node on = on
  in_drop (suc count) [] node on = absurd on
  in_drop (suc count) (first ∷ nodes) node on = inr (in_drop count nodes node on)

  chain_same : (nodes : List ℕ) → ((node : ℕ) → IsIn node nodes → node_text one node ≡ node_text other node)
      → chain_lines one retained nodes ≡ chain_lines other retained nodes
  chain_same nodes each =
      let front = lines_same (take 10 nodes) (λ n on. each n (in_take 10 nodes n on)) in
      let back = lines_same (drop (length nodes - 10) nodes) (λ n on. each n (in_drop (length nodes - 10) nodes n on)) in
      let all = lines_same nodes each in
      λ i. if nat_lt 20 (length nodes) then front i ++ (codes ".. " ++ decimal (length nodes - 20) ++ codes " more\n" ++ back i) else all i

module _ (one other : Findings) (retained : Retained) (labels : NodeLabels) where
  told_same : (told : Told) → ((node : ℕ) → Contains (nodes_of retained told) node → node_text one node ≡ node_text other node)
      → told_text one retained labels told ≡ told_text other retained labels told
  told_same told each =
      let chain = chain_same one other (retained_in retained) (nodes_of retained told) (λ node on.
      each node (Contains-from_in (nodes_of retained told) node on)) in
      λ i. suspect_line (total_of retained) told.pieces ++ (chain i ++ flat_map piece_line (map (sum_of labels) told.lines.items))

  all_same : (told : List Told) → ((node : ℕ) → Contains (named_nodes retained told) node → node_text one node ≡ node_text other node)
      → flat_map (told_text one retained labels) told ≡ flat_map (told_text other retained labels) told
  all_same [] each = refl
  all_same (own ∷ told) each =
      let parts = sym (flat_map-cons (nodes_of retained) own told) in
      let first = told_same own (λ node has. each node (subst (λ (l : List ℕ). Contains l node) parts
      (Contains-append_left (nodes_of retained own) (named_nodes retained told) node has))) in
      let rest = all_same told (λ node has. each node (subst (λ (l : List ℕ). Contains l node) parts
      (Contains-append_right (nodes_of retained own) (named_nodes retained told) node has))) in
      flat_map-cons (told_text one retained labels) own told ∙ (λ i. first i ++ rest i)
      ∙ sym (flat_map-cons (told_text other retained labels) own told)

  pub report_same : (weakly : WeakSum) (told : List Told)
      → ((node : ℕ) → Contains (named_nodes retained told) node → node_text one node ≡ node_text other node)
      → report_text one retained labels weakly told ≡ report_text other retained labels weakly told
  report_same weakly told each =
      ap (λ (behind : List ℕ). total_line (total_of retained) ++ weakly_line (weak.sum_of weakly) ++ behind) (all_same told each)

-- the text with the words of the small heap is the report on the whole
pub suspects_over : (ids : IdSize) (facts all : List FactValue) (small : Heap) (found : FoundOut) (P : List ℕ → Type 0)
    → IsWhole ids facts all → AreFoundOut ids all found → IsToldHeap ids (named_nodes found.retained found.told.items) all small
    → ((words : Findings) → AreFindings (size_of small) (facts_of small) words
    → P (report_text words found.retained found.labels found.weakly found.told.items))
    → (text : List ℕ) × IsSuspectsText ids all text × P text
suspects_over ids facts all small found P whole is heap writes =
    let agree = order_agrees all whole.ordered in
    let words = findings_exist ids all agree in
    let here = findings_exist ids (facts_of small) (order_agrees (facts_of small) heap.facts.whole.ordered) in
    let same = report_same here.0 words.0 found.retained found.labels found.weakly found.told.items (λ node has.
    node_in_all ids heap.wanted all (facts_of small) agree heap.facts here.0 words.0 here.1 words.1 node (heap.has node has)) in
    let writes_here = subst (λ (i : IdSize). (f : Findings) → AreFindings i (facts_of small) f
    → P (report_text f found.retained found.labels found.weakly found.told.items)) heap.size writes in (
      report_text words.0 found.retained found.labels found.weakly found.told.items,
      report_is ids all found.retained found.labels words.0 agree words.1 found.weakly found.told.items is,
      subst P same (writes_here here.0 here.1),
    )
