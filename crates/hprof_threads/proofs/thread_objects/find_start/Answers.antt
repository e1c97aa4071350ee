use Rattle.std.proofs.Common.{refl}
use Rattle.hprof_items.specs.FactValue.{value_of, Start}
use Rattle.hprof_rows.specs.declared.key.Key.TheVariants as keys
use Rattle.hprof_heap.specs.HeapFacts.{facts_of}
use Rattle.hprof_threads.proofs.KeyedFacts.{is_in_hand, keyed, none_keyed}
use Rattle.hprof_threads.proofs.ThreadAnswers.{start_there}
use Rattle.hprof_threads.proofs.thread_objects.find_start.Goals as goal

pub returns-in_err-object : goal.returns-in_err-object
returns-in_err-object c =
    rw c.from_residual.ensures (λ object is. none_keyed (facts_of c.args.heap.now) (keys.Thread c.args.serial) c.in_err-object.ensures
    (Start c.args.serial object is.trace is.name is.group is.parent_group) is.has refl)

pub unreachable-requires : goal.unreachable-requires
unreachable-requires c =
    let is = keyed (facts_of c.args.heap.now) (keys.Thread c.args.serial) (value_of c.in_ok-object.field-0) c.in_ok-object.ensures in
    let it = is_in_hand (keys.Thread c.args.serial) c.in_ok-object.field-0 is.key_is in
    c.in_default.not-Start c.args.serial it.0 it.1 it.2 it.3 it.4 it.5

pub returns : goal.returns
returns c =
    let it = c.in-Start in
    start_there (facts_of c.args.heap.now) c.args.serial it.thread it.object it.trace it.name it.group it.parent_group
    c.in_ok-object.field-0 c.in_ok-object.ensures it.is
