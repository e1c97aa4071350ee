use Rattle.std.proofs.Common.{◌≡◌, ◌+◌, ap, sym, ◌∙◌}
use Rattle.std.proofs.lemmas.List.{length-set}
use Rattle.hprof_merge.specs.Tree.{key_of}
use Rattle.hprof_merge.proofs.Tree.{changed_keys}
use Rattle.hprof_merge.proofs.contest_tree.enter.Goals as goal
use Rattle.hprof_merge.proofs.contest_tree.enter.Goals.{in-Some, in-None}

pub returns-clause-keys : goal.returns-clause-keys
returns-clause-keys c =
    let head = c.match-head.nodes in
    let key : key_of head ≡ c.args.head = elim c.match-head.branch [
      | in-Some w ↦ ap key_of w.nodes-is ∙ sym w.in-Some.is
      | in-None w ↦ ap key_of w.nodes-is ∙ sym w.in-None.is
    ] in
    changed_keys c.args.nodes.now c.settle.new.nodes c.args.count c.args.place head c.requires.tree.sized c.requires.place
    c.settle.ensures.leaves
    (c.settle.ensures.sized ∙ length-set c.args.nodes.now (c.args.count + c.args.place) head ∙ c.requires.tree.sized)
    c.args.head key
