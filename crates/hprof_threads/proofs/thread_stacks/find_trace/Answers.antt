use Rattle.std.proofs.Common.{refl}
use Rattle.hprof_items.specs.FactValue.{value_of, Trace}
use Rattle.hprof_rows.specs.declared.key.Key.TheVariants as keys
use Rattle.hprof_heap.specs.HeapFacts.{facts_of}
use Rattle.hprof_threads.proofs.KeyedFacts.{is_in_hand, keyed, none_keyed}
use Rattle.hprof_threads.proofs.ThreadAnswers.{trace_there}
use Rattle.hprof_threads.proofs.thread_stacks.find_trace.Goals as goal

pub returns-in_err-frames : goal.returns-in_err-frames
returns-in_err-frames c =
    rw c.from_residual.ensures (λ frames is. none_keyed (facts_of c.args.heap.now) (keys.Trace c.args.serial) c.in_err-frames.ensures
    (Trace c.args.serial is.thread frames) is.has refl)

pub unreachable-requires : goal.unreachable-requires
unreachable-requires c =
    let is = keyed (facts_of c.args.heap.now) (keys.Trace c.args.serial) (value_of c.in_ok-frames.field-0) c.in_ok-frames.ensures in
    let it = is_in_hand (keys.Trace c.args.serial) c.in_ok-frames.field-0 is.key_is in
    c.in_default.not-Trace c.args.serial it.0 it.1 it.2

pub returns : goal.returns
returns c =
    let it = c.in-Trace in
    trace_there (facts_of c.args.heap.now) c.args.serial it.serial it.thread it.frames c.in_ok-frames.field-0 c.in_ok-frames.ensures it.is
