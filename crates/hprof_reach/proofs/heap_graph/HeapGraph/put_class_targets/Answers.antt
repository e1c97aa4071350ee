use Rattle.hprof_heap.specs.ClassDump.{class_value}
use Rattle.hprof_heap.specs.HeapFacts.{facts_of}
use Rattle.hprof_reach.specs.Graph.{targets_in}
use Rattle.hprof_reach.proofs.ClassEdges.{class_targets, no_targets}
use Rattle.hprof_reach.proofs.heap_graph.HeapGraph.put_class_targets.Goals as goal

pub returns-then-not-has-clause-put : goal.returns-then-not-has-clause-put
returns-then-not-has-clause-put c = λ tells.
    no_targets (facts_of c.args.self.now.heap.now) c.args.from (targets_in c.args.self.now) (λ dump has same.
    let there = (tells.classes c.args.from).1 (c.if-from-ne0.true, (dump, has, same)) in
    let test = c.has.ensures.1 there in
    let no = c.if-not-has.true in
    absurd cc)

pub returns-clause-put : goal.returns-clause-put
returns-clause-put c = λ tells.
    let found = c.in-Some.ensures in
    class_targets (facts_of c.args.self.now.heap.now) c.args.from (class_value c.in-Some.dump) found.found found.id found.only
    (targets_in c.args.self.now) c.class_edges.new.into.list.items (λ edges held. c.in_ok-class_edges.ensures.holds edges held)
