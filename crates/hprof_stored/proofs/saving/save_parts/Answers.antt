use Rattle.std.proofs.Common.{Result, Err, sym, subst}
use Rattle.hprof_engine.specs.declared.tool_fault.ToolFault.{ToolFault}
use Rattle.hprof_engine.proofs.Going.{of_fault}
use Rattle.hprof_stored.specs.declared.saving.SavedHeap.{SavedHeap}
use Rattle.hprof_stored.specs.Holding.{others_before}
use Rattle.hprof_stored.specs.SavedParts.{saved_before}
use Rattle.hprof_stored.specs.SavingThrough.{SavesHeap}
use Rattle.hprof_stored.specs.Storing.{storing}
use Rattle.hprof_stored.proofs.SavedHeaps.{no_heap, reading_ended}
use Rattle.hprof_stored.proofs.saving.save_parts.Goals as goal

pub read_through-requires-clause-nothing : goal.read_through-requires-clause-nothing
read_through-requires-clause-nothing g c = (g.S.Target.written c.args.scratch, c.in-Ok.ensures.holds c.args.limits)

-- reading ended before all parts were read
pub returns-in_err-read_through : goal.returns-in_err-read_through
returns-in_err-read_through g c =
    let scratch = g.S.Target.written c.args.scratch in
    let fault = c.in_err-read_through.field-0.0 in
    of_fault (λ (r : Result (SavedHeap g.row.S.Denot) ToolFault). SavesHeap g.R.Source.left g.R.Source.health g.R.Source.pulls
    c.args.limits c.args.readers.now c.read_through.new.readers g.S.Target.written g.S.Target.health scratch r) c.from_residual.result
    fault c.from_residual.ensures.1
    (reading_ended g.R.Source.left g.R.Source.health g.R.Source.pulls c.args.limits c.args.readers.now c.read_through.new.readers
    g.S.Target.written g.S.Target.health scratch fault c.read_through.new.headed c.read_through.new.faults.items
    (storing c.read_through.new.sink) (c.in_err-read_through.ensures scratch (c.in-Ok.ensures.holds c.args.limits)))

pub heap_of_all-requires : goal.heap_of_all-requires
heap_of_all-requires g c =
    let scratch = g.S.Target.written c.args.scratch in
    let so = c.in_ok-read_through.ensures scratch (c.in-Ok.ensures.holds c.args.limits) in
    (others_before (saved_before scratch so.read.parts), so.holds.gathers)

-- the parts have no heap
pub returns-in-Err : goal.returns-in-Err
returns-in-Err g c =
    let scratch = g.S.Target.written c.args.scratch in
    let so = c.in_ok-read_through.ensures scratch (c.in-Ok.ensures.holds c.args.limits) in
    subst (λ (f : ToolFault). SavesHeap g.R.Source.left g.R.Source.health g.R.Source.pulls c.args.limits c.args.readers.now
    c.read_through.new.readers g.S.Target.written g.S.Target.health scratch (Err f)) (sym c.from.ensures)
    (no_heap g.R.Source.left g.R.Source.health g.R.Source.pulls c.args.limits c.args.readers.now c.read_through.new.readers
    g.S.Target.written g.S.Target.health scratch c.read_through.new.headed c.read_through.new.faults.items so.read
    c.conflicts_of_objects_come_last.ensures.others c.in-Err.fault
    (c.in-Err.ensures (others_before (saved_before scratch so.read.parts)) so.holds.gathers))

pub returns : goal.returns
returns g c =
    let scratch = g.S.Target.written c.args.scratch in
    let so = c.in_ok-read_through.ensures scratch (c.in-Ok.ensures.holds c.args.limits) in
    record {
      read = so.read;
      tells = c.in-Ok-heap_of_all.ensures (others_before (saved_before scratch so.read.parts)) so.holds.gathers;
      objects = so.holds.logs;
    }
