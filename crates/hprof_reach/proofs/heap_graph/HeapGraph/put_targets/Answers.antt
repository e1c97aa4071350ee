use Rattle.hprof_reach.proofs.heap_graph.HeapGraph.put_targets.Goals as goal

pub known_object_edges-requires : goal.known_object_edges-requires
known_object_edges-requires c = λ dump has same.
    let there = (c.requires.classes c.args.from).1 (c.if-from-eq0.false, (dump, has, same)) in
    let test = c.has.ensures.1 there in
    let no = c.if-has.false in
    absurd cc
