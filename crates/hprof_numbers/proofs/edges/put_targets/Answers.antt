use Rattle.std.proofs.Common.{Some, None, ap, ◌∙◌, arith}
use Rattle.std.specs.Prelude.{slice_index}
use Rattle.hprof_numbers.specs.Numbered.{nodes_in}
use Rattle.hprof_numbers.specs.Numbers.{bound_of, items_in}
use Rattle.hprof_numbers.proofs.Targets.{number_is, target_in, target_out, targets_all}
use Rattle.hprof_numbers.proofs.edges.put_targets.Goals as goal
use Rattle.hprof_numbers.proofs.edges.put_targets.Goals.{in-Some+in_ok-push, in_default}

pub push-requires : goal.push-requires
push-requires c =
    let target = slice_index c.args.targets.now c.loop-target.target-index in
    let number = c.in-Some.number in
    let found = c.number_of.result in
    let is = number_is (nodes_in c.args.nodes.now) c.args.other target found (Some number) c.number_of.ensures c.in-Some.ensures in
    record { fits = omega (arith, c.requires.fit target number is, c.loop-target.invariant.bound) }

pub loop-target-preserved : goal.loop-target-preserved
loop-target-preserved c =
    let i = c.loop-target.invariant in
    let nodes = nodes_in c.args.nodes.now in
    let other = c.args.other in
    let targets = c.args.targets.now in
    let items = items_in c.args.items.now in
    let then = items_in c.loop-target.items in
    let count = c.loop-target.target-index in
    let found = c.number_of.result in
    elim c.match-or.branch [
      | in-Some+in_ok-push w ↦ record {
        items = rw (w.items-is, w.in_ok-push.ensures.items)
            (target_in nodes other targets count items then i.items w.in-Some.number
            (number_is nodes other (slice_index targets count) found (Some w.in-Some.number) c.number_of.ensures w.in-Some.ensures));
        bound = ap bound_of w.items-is ∙ w.in_ok-push.ensures.bound ∙ i.bound;
      }
      | in_default w ↦ record {
        items = rw w.items-is
            (target_out nodes other targets count items then i.items
            (number_is nodes other (slice_index targets count) found None c.number_of.ensures w.in_default.ensures));
        bound = ap bound_of w.items-is ∙ i.bound;
      }
    ]

pub returns-clause-items : goal.returns-clause-items
returns-clause-items c =
    targets_all (nodes_in c.args.nodes.now) c.args.other c.args.targets.now c.loop-target.target-index (items_in c.args.items.now)
    (items_in c.loop-target.items) (omega (arith, c.loop-target-test.false, c.loop-target.auto.target-index-end))
    c.loop-target.invariant.items
