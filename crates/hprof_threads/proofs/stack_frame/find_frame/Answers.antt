use Rattle.std.proofs.Common.{refl, rules, w32}
use Rattle.std.proofs.lemmas.Int.{to_z-of_z}
use Rattle.hprof_items.specs.FactValue.{value_of, Frame}
use Rattle.hprof_rows.specs.declared.key.Key.TheVariants as keys
use Rattle.hprof_heap.specs.HeapFacts.{facts_of}
use Rattle.hprof_threads.proofs.KeyedFacts.{is_in_hand, keyed, none_keyed}
use Rattle.hprof_threads.proofs.FrameAnswers.{frame_there}
use Rattle.hprof_threads.proofs.stack_frame.find_frame.Goals as goal

pub returns-in_err-method : goal.returns-in_err-method
returns-in_err-method c =
    rw c.from_residual.ensures (λ frame is. none_keyed (facts_of c.args.heap.now) (keys.Frame c.args.id) c.in_err-method.ensures
    (Frame c.args.id frame.method is.signature frame.source frame.class_serial frame.line) is.has refl)

pub unreachable-requires : goal.unreachable-requires
unreachable-requires c =
    let is = keyed (facts_of c.args.heap.now) (keys.Frame c.args.id) (value_of c.in_ok-method.field-0) c.in_ok-method.ensures in
    let it = is_in_hand (keys.Frame c.args.id) c.in_ok-method.field-0 is.key_is in
    c.in_default.not-Frame c.args.id it.0 it.1 it.2 it.3 it.4 it.5

pub returns : goal.returns
returns c =
    let it = c.in-Frame in
    rw (to_z-of_z w32 it.line (search rules))
    (frame_there (facts_of c.args.heap.now) c.args.id it.id it.method it.signature it.source it.class_serial it.line c.in_ok-method.field-0
    c.in_ok-method.ensures it.is)
