use Rattle.std.proofs.Common.{Some, sym, subst, ap, ◌∙◌}
use Rattle.hprof_heap.specs.HeapFacts.{facts_of, size_of}
use Rattle.hprof_edges.specs.Edges.{IsEdge}
use Rattle.hprof_edges.specs.LeftOut.{IsKept, fields_in}
use Rattle.hprof_why.proofs.Choosing.{least_is}
use Rattle.hprof_why.proofs.walk.Walk.step.Goals as goal

pub returns-clause-step : goal.returns-clause-step
returns-clause-step c = λ edges edge are least.
    let ids = size_of c.args.view.heap.now in
    let facts = facts_of c.args.view.heap.now in
    let same = least_is (IsKept (fields_in c.args.left_out.now) facts) ids facts c.args.from c.args.to c.in_ok-found.found c.in-Some.edge
    edge (c.in_ok-found.ensures.kept c.requires.view.layouts) c.in-Some.is least in
    let is = c.in_ok-step.ensures.found edges c.requires.skips are (subst (IsEdge ids facts) (sym same) least.0.edge_is) in
    let edge_is = c.in_ok-step.ensures.edge ∙ same in
    let name = is.0 ∙ ap edges.name same in
    let weak = is.1 ∙ ap edges.is_weak same in
    λ i. Some (record { edge = edge_is i; name = name i; is_weak = weak i })
