use Rattle.std.proofs.Common.{◌≡◌, ℕ}
use Rattle.hprof_heap.specs.HeapFacts.{facts_of}
use Rattle.hprof_reach.specs.Nodes.{IsClassNode}
use Rattle.hprof_retained.specs.Tree.{place_of}
use Rattle.hprof_retained.proofs.BorderLists.{only_given}
use Rattle.hprof_retained.proofs.border_sink.begun.Goals as goal

pub returns-clause-others : goal.returns-clause-others
returns-clause-others c =
    only_given c.new-border.result.others.items c.push_classes.new.others.items
    (λ (node : ℕ). IsClassNode (facts_of c.args.heap.now) node × (place_of c.args.retained.now node ≡ 0)) c.new-border.ensures.others
    c.in_ok-push_classes.ensures
