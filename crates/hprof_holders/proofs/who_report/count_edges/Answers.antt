use Rattle.std.proofs.Common.{◌≡◌, ◌∷◌, ◌∙◌, ℕ, List, length, map, sym, ap, subst, arith, string_bytes}
use Rattle.std.specs.List.{AllByRecursion}
use Rattle.std.proofs.lemmas.List.{nil_from_length}
use Rattle.hprof_heap.specs.HeapFacts.{facts_of, size_of}
use Rattle.hprof_edges.specs.declared.edge.Edge.{Edge}
use Rattle.hprof_edges.specs.Edges.{IsEdge}
use Rattle.hprof_holders.specs.WhoText.{edge_kind}
use Rattle.hprof_holders.proofs.Counting.{counted_all, counted_next, counted_none, grows, none_counted}
use Rattle.hprof_holders.proofs.WhoWords.{told_name, told_weak}
use Rattle.hprof_holders.proofs.who_report.count_edges.Goals as goal

pub loop-edge-init : goal.loop-edge-init
loop-edge-init c = record {
  counted = λ found names are are_names all.
      counted_none (map (edge_kind found names) c.args.edges.now) c.new-sums.result c.new-sums.ensures;
  edges = λ all. all;
  skips = c.new-names.ensures (facts_of c.args.view.heap.now);
  few = λ text. let none = none_counted c.new-sums.result c.new-sums.ensures text in omega (arith, none);
}

pub add-requires : goal.add-requires
add-requires c =
    let few = c.loop-edge.invariant.few (string_bytes c.in_ok-kind.kind) in
    let left = ap (λ (l : List Edge). length l) c.in-Some.ensures.cases.0 in
    omega (arith, few, left)

pub loop-edge-preserved : goal.loop-edge-preserved
loop-edge-preserved c =
    let edge = c.in-Some.edge.now in
    let after = c.in-Some.after.now in
    let step = c.in_ok-step.step in
    let same = c.in_ok-step.ensures.edge in
    let own = string_bytes c.in_ok-kind.kind in
    let are_edges = AllByRecursion (IsEdge (size_of c.args.view.heap.now) (facts_of c.args.view.heap.now)) in
    let left : are_edges c.args.edges.now → are_edges (edge ∷ after) =
    λ all. subst are_edges c.in-Some.ensures.cases.0 (c.loop-edge.invariant.edges all) in
    record {
      counted = λ found names are are_names all.
          let kinds = map (edge_kind found names) in
          let told = c.in_ok-step.ensures.found names c.loop-edge.invariant.skips are_names (left all).0 in
          let kind : own ≡ edge_kind found names edge =
          c.in_ok-kind.ensures found names are (told_name names step.edge edge same step.name told.0)
          (told_weak names step.edge edge same step.is_weak told.1) ∙ ap (edge_kind found names) same in
          counted_next (kinds c.args.edges.now) (kinds c.loop-edge.rest.now) (kinds after) own c.loop-edge.sums c.add.new.self
          (c.loop-edge.invariant.counted found names are are_names all)
          (ap kinds c.in-Some.ensures.cases.0 ∙ ap (λ (k : List ℕ). k ∷ kinds after) (sym kind)) c.in_ok-add.ensures;
      edges = λ all. (left all).1;
      skips = c.in_ok-step.ensures.skips c.loop-edge.invariant.skips;
      few = λ text.
          let before = c.loop-edge.invariant.few text in
          let more = grows c.loop-edge.sums c.add.new.self own c.in_ok-add.ensures text in
          let one = ap (λ (l : List Edge). length l) c.in-Some.ensures.cases.0 in
          omega (arith, before, more, one);
    }

pub returns : goal.returns
returns c = λ found names are are_names all.
    let kinds = map (edge_kind found names) in
    let rest = c.loop-edge.rest.now in
    counted_all (kinds c.args.edges.now) (kinds rest) c.loop-edge.sums (c.loop-edge.invariant.counted found names are are_names all)
    (ap kinds (nil_from_length rest c.in_default.ensures.cases))
