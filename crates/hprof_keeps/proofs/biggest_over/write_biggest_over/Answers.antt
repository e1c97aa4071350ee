use Rattle.hprof_heap.specs.HeapFacts.{facts_of, size_of}
use Rattle.hprof_retained.proofs.KeptFound.{retained_kept_on}
use Rattle.hprof_keeps.proofs.biggest_over.write_biggest_over.Goals as goal

pub returns-clause-ends : goal.returns-clause-ends
returns-clause-ends g c = c.write_from_tree-outcome.ensures c.args.choice c.in-Ok.ensures.made.1

pub returns-clause-references : goal.returns-clause-references
returns-clause-references g c =
    let ids = size_of c.args.heap.now in
    let facts = facts_of c.args.heap.now in
    let objects = c.args.objects.now in
    retained_kept_on (g.O.Objects.make_up objects ids facts) (g.O.Objects.agree objects ids facts) ids c.chosen_tree.new.references
    c.keep_retained.new.self c.in-Ok.ensures.references c.in-Ok.made.retained
    (c.in-Ok.ensures.made.0, λ all make. (c.in-Ok.ensures.made.1 all make).0) c.keep_retained.ensures.retained
    c.keep_retained.ensures.others
