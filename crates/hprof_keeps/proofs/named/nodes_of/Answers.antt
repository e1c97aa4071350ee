use Rattle.hprof_keeps.specs.Kept.{nodes_at}
use Rattle.hprof_keeps.proofs.NamedNodes.{first_there, second_there}
use Rattle.hprof_keeps.proofs.named.nodes_of.Goals as goal

pub returns-clause-some : goal.returns-clause-some
returns-clause-some c =
    let retained = c.args.retained.now in
    first_there c.new-nodes.result.items (nodes_at retained c.args.some.now) (nodes_at retained c.args.more.now)
    c.push_nodes.new.nodes.items c.push_nodes-2.new.nodes.items c.sort_once.new.nodes.items c.in_ok-push_nodes.ensures
    c.in_ok-push_nodes-2.ensures c.in_ok-sort_once.ensures.same

pub returns-clause-more : goal.returns-clause-more
returns-clause-more c =
    let retained = c.args.retained.now in
    second_there c.new-nodes.result.items (nodes_at retained c.args.some.now) (nodes_at retained c.args.more.now)
    c.push_nodes.new.nodes.items c.push_nodes-2.new.nodes.items c.sort_once.new.nodes.items c.in_ok-push_nodes.ensures
    c.in_ok-push_nodes-2.ensures c.in_ok-sort_once.ensures.same
