use Rattle.std.proofs.Common.{◌∙◌, sym, arith}
use Rattle.hprof_heap.specs.HeapFacts.{facts_of, size_of}
use Rattle.hprof_edges.specs.LeftOut.{IsKept, fields_in}
use Rattle.hprof_naming.proofs.Namings.{of_text}
use Rattle.hprof_why.specs.Walks.{IsFoundRun, IsRunOf}
use Rattle.hprof_why.proofs.Going.{gone_none, gone_one}
use Rattle.hprof_why.proofs.fronts.run_at_front.Goals as goal

pub returns-then-not-is_same-clause-run : goal.returns-then-not-is_same-clause-run
returns-then-not-is_same-clause-run c = λ found edge links are is step.
    let ids = size_of c.args.view.heap.now in
    let facts = facts_of c.args.view.heap.now in
    let P = IsKept (fields_in c.args.left_out.now) facts in (
      gone_none P ids facts found c.args.before edge links c.args.behind.node c.args.behind.rest.now step
          (sym (c.in_ok-is_same.ensures found.nodes are.are_nodes) ∙ c.if-not-is_same.true),
      λ some. absurd (omega (arith, some)),
    )

pub returns-clause-run : goal.returns-clause-run
returns-clause-run c = λ found edge links are is step.
    let ids = size_of c.args.view.heap.now in
    let facts = facts_of c.args.view.heap.now in
    let P = IsKept (fields_in c.args.left_out.now) facts in
    of_text (IsRunOf c.args.view c.args.left_out.now found c.args.before edge links)
    (IsFoundRun c.args.view c.args.left_out.now found c.args.before edge links) c.go_on.result
    (λ run is. (is.1, λ some. is.0))
    (c.go_on.ensures.run found edge links are is
    (gone_one P ids facts found c.args.before edge links c.args.behind.node c.args.behind.rest.now step
    (sym (c.in_ok-is_same.ensures found.nodes are.are_nodes) ∙ c.if-not-is_same.false)))
