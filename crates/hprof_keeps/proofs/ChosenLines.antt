-- The lines of chosen nodes from a heap of few objects are the report on the whole.
use Rattle.std.proofs.Common.{ℕ, List, refl, subst}
use Rattle.hprof_values.specs.declared.ids.IdSize.{IdSize}
use Rattle.hprof_items.specs.FactValue.{FactValue}
use Rattle.hprof_rows.proofs.Order.{order_agrees}
use Rattle.hprof_heap.specs.declared.heap.Heap.{Heap}
use Rattle.hprof_heap.specs.HeapFacts.{facts_of, size_of}
use Rattle.hprof_passes.specs.Passing.{IsWhole}
use Rattle.hprof_describe.specs.Findings.{AreFindings, Findings}
use Rattle.hprof_describe.proofs.OneFinding.{findings_exist}
use Rattle.hprof_retained.specs.Tree.{IsTreeOf}
use Rattle.hprof_retained.specs.declared.retained.Retained.{Retained}
use Rattle.hprof_keeps.specs.BiggestText.{IsBiggestText}
use Rattle.hprof_keeps.specs.Chosen.{IsChosen}
use Rattle.hprof_keeps.specs.Kept.{IsNamedHeap, nodes_at}
use Rattle.hprof_keeps.specs.KeepsText.{above_lines}
use Rattle.hprof_keeps.specs.Order.{retained_in}
use Rattle.hprof_keeps.specs.PlaceTaken.{AreChosenPlaces}
use Rattle.hprof_keeps.specs.declared.choice.Choice.{Choice}
use Rattle.hprof_keeps.proofs.Held.{are_retained}
use Rattle.hprof_keeps.proofs.NamedNodes.{some_lines}

pub biggest_over : (ids : IdSize) (facts all : List FactValue) → IsWhole ids facts all → (small : Heap) (retained : Retained)
    (choice : Choice) (places more : List ℕ) (P : List ℕ → Type 0) → IsTreeOf ids all retained
    → AreChosenPlaces ids all choice retained places → IsNamedHeap ids (nodes_at retained places) more all small
    → ((here : Findings) → AreFindings (size_of small) (facts_of small) here
    → P (above_lines here (retained_in retained) (nodes_at retained places)))
    → (text : List ℕ) × IsBiggestText ids all (IsChosen all choice) text × P text
biggest_over ids facts all whole small retained choice places more P tree chosen is writes =
    let agree = order_agrees all whole.ordered in
    let found = findings_exist ids all agree in
    let here = findings_exist ids (facts_of small) (order_agrees (facts_of small) is.facts.whole.ordered) in
    let nodes = nodes_at retained places in
    let writes_here = subst (λ (i : IdSize). (f : Findings) → AreFindings i (facts_of small) f
    → P (above_lines f (retained_in retained) nodes)) is.size writes in (
      above_lines found.0 (retained_in retained) nodes,
      record {
        agree = agree;
        found = found.0;
        are_found = found.1;
        retained = retained_in retained;
        are_retained = are_retained ids all retained tree;
        nodes = nodes;
        are_nodes = chosen;
        is = refl;
      },
      subst P (some_lines ids all small facts whole nodes more is found.0 here.0 found.1 here.1 (retained_in retained))
          (writes_here here.0 here.1),
    )
