use Rattle.std.proofs.Common.{refl}
use Rattle.hprof_items.specs.FactValue.{value_of, Load}
use Rattle.hprof_rows.specs.declared.key.Key.TheVariants as keys
use Rattle.hprof_heap.specs.HeapFacts.{facts_of}
use Rattle.hprof_threads.proofs.KeyedFacts.{is_in_hand, keyed, none_keyed}
use Rattle.hprof_threads.proofs.FrameAnswers.{load_there}
use Rattle.hprof_threads.proofs.stack_frame.find_load.Goals as goal

pub returns-in_err-name : goal.returns-in_err-name
returns-in_err-name c =
    rw c.from_residual.ensures (λ name is. none_keyed (facts_of c.args.heap.now) (keys.Load c.args.serial) c.in_err-name.ensures
    (Load c.args.serial is.class is.trace name) is.has refl)

pub unreachable-requires : goal.unreachable-requires
unreachable-requires c =
    let is = keyed (facts_of c.args.heap.now) (keys.Load c.args.serial) (value_of c.in_ok-name.field-0) c.in_ok-name.ensures in
    let it = is_in_hand (keys.Load c.args.serial) c.in_ok-name.field-0 is.key_is in
    c.in_default.not-Load c.args.serial it.0 it.1 it.2 it.3

pub returns : goal.returns
returns c =
    let it = c.in-Load in
    load_there (facts_of c.args.heap.now) c.args.serial it.serial it.class it.trace it.name c.in_ok-name.field-0 c.in_ok-name.ensures it.is
