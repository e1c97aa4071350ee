use Rattle.std.proofs.Common.{◌≡◌, ℕ, true, Bor, List, Result, drop, refl, subst, sym}
use Rattle.hprof_values.specs.declared.ids.IdSize.{IdSize}
use Rattle.hprof_items.specs.FactValue.{FactValue}
use Rattle.hprof_rows.specs.HeapValue.{HeapValue}
use Rattle.hprof_heap.specs.declared.standing.Refusal.{Refusal}
use Rattle.hprof_edges.specs.declared.edge.Edge.{Edge}
use Rattle.hprof_edges.specs.Edges.{AreEdges, AreReferrers}
use Rattle.hprof_edges.specs.EdgeSet.{edges_in}
use Rattle.hprof_graph.specs.declared.derived.Derived.{Derived}
use Rattle.hprof_graph.specs.Derived.{keeps_of}
use Rattle.hprof_graph.specs.LiveHeap.{IsAnswer, outcome_of}
use Rattle.hprof_graph.proofs.Outcomes.{answer_so, current_stays, kind_answered, outcome_stays}
use Rattle.hprof_graph.proofs.live_heap.LiveHeap.referrers_now.Goals as goal

-- the edges from a place on
abbrev AreBehind : Derived → ℕ → IdSize → List FactValue → Bor (List Edge) → Type 0
AreBehind derived start ids facts edges = edges.now ≡ drop start (edges_in derived.set)

pub returns : goal.returns
returns c =
    let live = c.args.self.now in
    let other = c.partition_by_target-start.new.self in
    let start = c.partition_by_target-start.result in
    let id = c.args.id in
    let lent : IsAnswer (AreBehind other start) (outcome_of live) c.lend_edges.result =
    subst (λ (o : Result HeapValue Refusal). IsAnswer (AreBehind other start) o c.lend_edges.result) (outcome_stays live other)
    c.lend_edges.ensures in (
      (
        refl,
        λ _. tt,
        record {
          seen = refl;
          goes_on = record {
            current = current_stays live other c.partition_by_target-start.ensures.same;
            keeps =
                c.partition_by_target-start.ensures.keeps;
          };
        },
      ),
      record {
        rests = tt;
        kind = kind_answered (AreBehind other start) (outcome_of live) c.lend_edges.result lent;
        value = λ watches.
            answer_so (AreBehind other start) (λ ids facts (edges : Bor (List Edge)). AreReferrers ids facts id edges.now) (outcome_of live)
            live.derived c.lend_edges.result lent watches.current.derived
            (λ ids facts edges is same. subst (AreReferrers ids facts id) (sym same)
            (c.partition_by_target-start.ensures.behind ids facts is watches.keeps));
        kept = λ current.
            answer_so (AreBehind other start)
            (λ ids facts (edges : Bor (List Edge)). AreEdges ids facts (λ edge. (edge.to ≡ id) × (keeps_of live.derived edge ≡ true))
            edges.now) (outcome_of live) live.derived c.lend_edges.result lent current.derived
            (λ ids facts edges is same. subst
            (AreEdges ids facts (λ (edge : Edge). (edge.to ≡ id) × (keeps_of live.derived edge ≡ true))) (sym same)
            (c.partition_by_target-start.ensures.kept ids facts is));
      },
    )
