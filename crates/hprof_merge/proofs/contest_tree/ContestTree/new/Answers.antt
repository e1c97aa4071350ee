use Rattle.std.proofs.Common.{◌≡◌, ◌*◌, length, ap, ◌∙◌, arith}
use Rattle.hprof_merge.specs.Tree.{key_of}
use Rattle.hprof_merge.proofs.Tree.{empty_tree, head-node}
use Rattle.hprof_merge.proofs.contest_tree.ContestTree.new.Goals as goal

pub invariant_of-result : goal.invariant_of-result
invariant_of-result c =
    let all = c.loop.auto.counter-end in
    let end = c.loop-test.false in
    let now = c.loop.invariant.sized in
    let sized : length c.loop.nodes.items ≡ 2 * c.args.count = omega arith in
    record { tree = empty_tree c.loop.nodes.items c.args.count sized c.loop.invariant.empty }

pub returns-clause-empty : goal.returns-clause-empty
returns-clause-empty c = λ place. head-node c.args.count c.loop.nodes.items place ∙ ap key_of (c.loop.invariant.empty _)
