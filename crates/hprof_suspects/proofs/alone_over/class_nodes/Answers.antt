use Rattle.hprof_retained.specs.Tree.{node_at}
use Rattle.hprof_suspects.proofs.alone_over.class_nodes.Goals as goal

pub returns-clause-has : goal.returns-clause-has
returns-clause-has c = λ place some within labelled.
    (c.in_ok-sort_once.ensures.same (node_at c.args.retained.now place)).1 (c.in_ok-push_class_nodes.ensures place some within labelled)
