use Rattle.std.proofs.Common.{Result, Ok, Err, refl}
use Rattle.hprof_heap.specs.Gathering.{gathered}
use Rattle.hprof_heap.specs.Heap.{heap_of}
use Rattle.hprof_engine.specs.declared.tool_fault.ToolFault.{ToolFault}
use Rattle.hprof_engine.specs.declared.salvaged.SalvagedHeap.{SalvagedHeap}
use Rattle.hprof_engine.specs.Through.{salvaged_in}
use Rattle.hprof_engine.specs.Sound.{AnswersAsJoin}
use Rattle.hprof_engine.specs.declared.tool_fault.ToolFault.TheVariants as tool
use Rattle.hprof_engine.proofs.AsJoined.{as_joined}
use Rattle.hprof_engine.proofs.Going.{of_fault}
use Rattle.hprof_engine.proofs.NoFault.{as_join, reading_ended, no_heap}
use Rattle.hprof_engine.proofs.salvage.salvage_returning_heap.Goals as goal

pub returns-in_err-read_through-clause-no_fault : goal.returns-in_err-read_through-clause-no_fault
returns-in_err-read_through-clause-no_fault g c = λ parts have.
    let fault = c.in_err-read_through.field-0.0 in
    of_fault (λ (r : Result SalvagedHeap ToolFault). AnswersAsJoin g.R.Source.left g.R.Source.health g.R.Source.pulls c.args.limits
    c.args.readers.now c.read_through.new.readers g.W.Target.written g.W.Target.health c.args.target.now c.args.target.now (salvaged_in r))
    c.from_residual.result fault c.from_residual.ensures.1
    (as_join g.R.Source.left g.R.Source.health g.R.Source.pulls c.args.limits c.args.readers.now c.read_through.new.readers
    g.W.Target.written g.W.Target.health c.args.target.now c.args.target.now parts have (Err fault)
    (reading_ended g.R.Source.left g.R.Source.health g.R.Source.pulls c.args.limits c.args.readers.now c.read_through.new.readers
    g.W.Target.written g.W.Target.health c.args.target.now (gathered c.read_through.new.counter.gatherer)
    c.read_through.new.counter.parts c.read_through.new.faults.items fault c.in_err-read_through.ensures))

pub returns-in_err-heap-clause-no_fault : goal.returns-in_err-heap-clause-no_fault
returns-in_err-heap-clause-no_fault g c = λ parts have.
    let so = c.in_ok-read_through.ensures in
    let fault = c.in_err-heap.field-0.0 in
    of_fault (λ (r : Result SalvagedHeap ToolFault). AnswersAsJoin g.R.Source.left g.R.Source.health g.R.Source.pulls c.args.limits
    c.args.readers.now c.read_through.new.readers g.W.Target.written g.W.Target.health c.args.target.now c.args.target.now (salvaged_in r))
    c.from_residual-in_err-heap.result fault c.from_residual-in_err-heap.ensures.1
    (as_join g.R.Source.left g.R.Source.health g.R.Source.pulls c.args.limits c.args.readers.now c.read_through.new.readers
    g.W.Target.written g.W.Target.health c.args.target.now c.args.target.now parts have (Err fault)
    (no_heap g.R.Source.left g.R.Source.health g.R.Source.pulls c.args.limits c.args.readers.now c.read_through.new.readers
    g.W.Target.written g.W.Target.health c.args.target.now (gathered c.read_through.new.counter.gatherer)
    c.read_through.new.counter.parts c.read_through.new.faults.items so fault (c.in_err-heap.ensures.told so.given so.gathers)))

pub returns-in-Err-clause-no_fault : goal.returns-in-Err-clause-no_fault
returns-in-Err-clause-no_fault g c = λ parts have.
    let so = c.in_ok-read_through.ensures in
    let w = c.in-Err.ensures in
    as_join g.R.Source.left g.R.Source.health g.R.Source.pulls c.args.limits c.args.readers.now c.read_through.new.readers
    g.W.Target.written g.W.Target.health c.args.target.now c.write_canonical.new.target parts have (Err (tool.Write c.in-Err.fault))
    (record {
      reads = so.reads;
      heap = heap_of c.in_ok-heap.heap;
      through = record {
        each = so.each;
        all = so.all;
        saves = record { given = so.given; saved = so.saved; tells = c.in_ok-heap.ensures.told so.given so.gathers };
      };
      count = w.bytes.0;
      wrote = w.bytes.2;
      ill = w.health;
    })

pub returns-clause-salvages : goal.returns-clause-salvages
returns-clause-salvages g c =
    let so = c.in_ok-read_through.ensures in
    let tells = c.in_ok-heap.ensures.told so.given so.gathers in
    let w = c.in_default.ensures in
    record {
      reads = so.reads;
      heap = heap_of c.in_ok-heap.heap;
      through = record {
        each = so.each;
        all = so.all;
        saves = record { given = so.given; saved = so.saved; tells = tells };
      };
      listed = so.has_listed;
      parts_count = so.counted;
      facts_count = c.count.ensures;
      wrote = w.bytes;
      is_well = w.health;
    }

pub returns-clause-saved : goal.returns-clause-saved
unfolding returns-clause-salvages
returns-clause-saved g c = (returns-clause-salvages g c, refl)

pub returns-clause-no_fault : goal.returns-clause-no_fault
returns-clause-no_fault g c = λ parts have.
    as_join g.R.Source.left g.R.Source.health g.R.Source.pulls c.args.limits c.args.readers.now c.read_through.new.readers
    g.W.Target.written g.W.Target.health c.args.target.now c.write_canonical.new.target parts have
    (Ok (record {
      joined = record { parts = c.read_through.new.counter.parts; facts = c.count.result };
      faults = c.read_through.new.faults;
    })) (returns-clause-salvages g c)

pub returns-clause-joined : goal.returns-clause-joined
returns-clause-joined g c = as_joined g.R.Source.left g.R.Source.health g.R.Source.pulls c.args.limits c.args.readers.now
    c.read_through.new.readers g.W.Target.written g.W.Target.health c.args.target.now c.write_canonical.new.target
    (record {
      joined = record { parts = c.read_through.new.counter.parts; facts = c.count.result };
      faults = c.read_through.new.faults;
    }) (returns-clause-salvages g c)
