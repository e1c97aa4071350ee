use Rattle.std.proofs.Common.{◌≡◌, ◌≢◌, ◌-◌, ◌<◌, ◌^◌, length, set, get_or, Some, None, refl, ap, ◌∙◌, arith, get_or-set_other, append-nil}
use Rattle.std.proofs.Common.{sym}
use Rattle.hprof_heap.specs.Gathering.{gathered}
use Rattle.hprof_engine.proofs.Reading.{element_at}
use Rattle.hprof_engine.specs.Through.{ReadsParts}
use Rattle.hprof_engine.proofs.PartByFault.{read_whole, read_faulty}
use Rattle.hprof_engine.proofs.Going.{of_fault, gathers_none, gathers_more, ends_at}
use Rattle.hprof_engine.proofs.salvage_reading.read_through.Goals as goal
use Rattle.hprof_engine.proofs.salvage_reading.read_through.Goals.{in-Err+in_ok-list_fault, in_default}

pub loop-index-init : goal.loop-index-init
loop-index-init g c = record {
  unread = λ k d from below. refl;
  saved = gathers_none g.R.Source.left g.R.Source.health g.R.Source.pulls c.args.limits c.args.readers.now c.args.readers.now
      (gathered c.args.counter.now.gatherer) c.args.counter.now.parts c.args.faults.now.items c.requires.nothing c.requires.none
      c.requires.empty;
}

pub returns-in_err-list_fault : goal.returns-in_err-list_fault
returns-in_err-list_fault g c =
    let index = c.loop-index.index in
    let found = c.index-readers-index.result in
    let was = get_or c.loop-index.readers index found in
    let within : index < length c.args.readers.now = omega arith in
    let still : index < length c.loop-index.readers = omega arith in
    let same : length c.loop-index.readers ≡ length c.args.readers.now = omega arith in
    let there = element_at c.args.readers.now c.loop-index.readers index found within (c.loop-index.invariant.unread index found
    (omega arith) within) c.index-readers-index.is ∙ ap Some c.index-readers-index.is in
    let read = c.in-Err.ensures.read in
    of_fault (ReadsParts g.R.Source.left g.R.Source.health g.R.Source.pulls c.args.limits c.args.readers.now
    (set c.loop-index.readers index c.read_part.new.source) (gathered c.read_part.new.sink.gatherer) c.read_part.new.sink.parts
    c.list_fault.new.faults.items) c.from_residual.result c.in_err-list_fault.field-0.0 c.from_residual.ensures.1
    (ends_at g.R.Source.left g.R.Source.health g.R.Source.pulls c.args.limits c.args.readers.now c.loop-index.readers
    (λ it. gathered it.gatherer) (λ it. it.parts) index was c.read_part.new.source read.0 c.loop-index.counter c.read_part.new.sink
    c.loop-index.faults.items c.list_fault.new.faults.items c.in-Err.fault there still same c.loop-index.invariant.unread
    c.loop-index.invariant.saved read.1 c.in-Err.ensures.pulls read.2 c.in_err-list_fault.field-0.0 c.in_err-list_fault.ensures.err)

pub loop-index-preserved : goal.loop-index-preserved
loop-index-preserved g c =
    let index = c.loop-index.index in
    let found = c.index-readers-index.result in
    let was = get_or c.loop-index.readers index found in
    let within : index < length c.args.readers.now = omega arith in
    let still : index < length c.loop-index.readers = omega arith in
    let few : index < 2 ^ 64 - 1 = omega arith in
    let there = element_at c.args.readers.now c.loop-index.readers index found within (c.loop-index.invariant.unread index found
    (omega arith) within) c.index-readers-index.is ∙ ap Some c.index-readers-index.is in
    record {
      unread = λ k d after below.
          let other : k ≢ index = omega arith in
          get_or-set_other c.loop-index.readers index k c.read_part.new.source d other
          ∙ c.loop-index.invariant.unread k d (omega arith) below;
      saved =
          let more = gathers_more g.R.Source.left g.R.Source.health g.R.Source.pulls c.args.limits c.args.readers.now c.loop-index.readers
          (λ it. gathered it.gatherer) (λ it. it.parts) index was c.read_part.new.source in
          elim c.match-read_part.branch [
            | in-Err+in_ok-list_fault w ↦
                let read = w.in-Err.ensures.read in
                let listed = w.in_ok-list_fault.ensures.ok in
                let one = read_faulty (λ it. gathered it.gatherer) (λ it. it.parts) g.R.Source.left g.R.Source.health g.R.Source.pulls
                c.args.limits was read.0 c.read_part.new.source c.loop-index.counter c.read_part.new.sink c.loop-index.invariant.saved.sound
                c.loop-index.invariant.saved.given c.loop-index.invariant.saved.gathers read.1 w.in-Err.ensures.pulls w.in-Err.fault
                listed.0 read.2 in
                more (record { came = read.0; fault = Some w.in-Err.fault }) c.loop-index.counter c.read_part.new.sink
                c.loop-index.faults.items
                c.match-read_part.faults.items there still few c.loop-index.invariant.saved one.0 one.1
                (ap (λ v. v.items) w.faults-is ∙ listed.1)
            | in_default w ↦
                let read = w.in_default.ensures.read in
                let one = read_whole (λ it. gathered it.gatherer) (λ it. it.parts) g.R.Source.left g.R.Source.health g.R.Source.pulls
                c.args.limits was read.0 c.read_part.new.source c.loop-index.counter c.read_part.new.sink c.loop-index.invariant.saved.sound
                read.1 w.in_default.ensures.pulls w.in_default.field-0 read.2 in
                more (record { came = read.0; fault = None }) c.loop-index.counter c.read_part.new.sink c.loop-index.faults.items
                c.match-read_part.faults.items there still few c.loop-index.invariant.saved one.0 one.1
                (ap (λ v. v.items) w.faults-is ∙ sym (append-nil c.loop-index.faults.items))
          ];
    }
