use Rattle.std.proofs.Common.{◌≤◌, List, Option, Result, Ok, Err, ℕ, arith}
use Rattle.hprof_items.specs.Spelling.{longest_body}
use Rattle.hprof_engine.specs.Joining.{AreGiven}
use Rattle.hprof_stored.specs.declared.stored_fault.StoredFault.{StoredFault}
use Rattle.hprof_stored.specs.declared.stored_heap.StoredHeap.{StoredHeap}
use Rattle.hprof_stored.specs.Parts.{AreStored, given_of, others_of}
use Rattle.hprof_stored.specs.Reading.{ReadsStored, stopped_by}
use Rattle.hprof_stored.proofs.Answered.{HasNoOther, answered, by_all, of_fault, stopped}
use Rattle.hprof_stored.proofs.reading.read_watched.Goals as goal

-- reading ended with a fault

pub returns-in_err-sink-clause-reads : goal.returns-in_err-sink-clause-reads
returns-in_err-sink-clause-reads g c =
    let fault = c.in_err-sink.field-0.0 in
    let le : c.args.limits.max_item ≤ longest_body = omega arith in
    of_fault (λ (r : Result (StoredHeap g.row.S.Denot × Option g.row.T.Denot) StoredFault). ReadsStored g.R.Source.left
    g.R.Source.health g.R.Source.pulls c.args.limits c.args.readers.now c.read_all.new.readers (stopped_by r)) c.from_residual.result
    fault c.from_residual.ensures.1
    (stopped g.R.Source.left g.R.Source.health g.R.Source.pulls c.args.limits {S = g.row.S.Denot} g.S.Target g.S.Target.written
    g.S.Target.health g.T.ObjectSink.takes g.T.ObjectSink.refuses (g.S.Target.written c.args.scratch) c.args.watch c.args.readers.now
    c.read_all.new.readers fault c.in_err-sink.ensures.read le).0

pub returns-in_err-sink-clause-no_other : goal.returns-in_err-sink-clause-no_other
returns-in_err-sink-clause-no_other g c =
    let fault = c.in_err-sink.field-0.0 in
    let le : c.args.limits.max_item ≤ longest_body = omega arith in
    of_fault (λ (r : Result (StoredHeap g.row.S.Denot × Option g.row.T.Denot) StoredFault). HasNoOther g.R.Source.left
    g.R.Source.health c.args.readers.now c.read_all.new.readers (stopped_by r)) c.from_residual.result
    fault c.from_residual.ensures.1
    (stopped g.R.Source.left g.R.Source.health g.R.Source.pulls c.args.limits {S = g.row.S.Denot} g.S.Target g.S.Target.written
    g.S.Target.health g.T.ObjectSink.takes g.T.ObjectSink.refuses (g.S.Target.written c.args.scratch) c.args.watch c.args.readers.now
    c.read_all.new.readers fault c.in_err-sink.ensures.read le).1

-- all parts were read

pub returns-in_err-heap-clause-reads : goal.returns-in_err-heap-clause-reads
returns-in_err-heap-clause-reads g c =
    let first = c.in_ok-sink.ensures.read in
    let fault = c.in_err-heap.field-0.0 in
    of_fault (λ (r : Result (StoredHeap g.row.S.Denot × Option g.row.T.Denot) StoredFault). ReadsStored g.R.Source.left
    g.R.Source.health g.R.Source.pulls c.args.limits c.args.readers.now c.read_all.new.readers (stopped_by r))
    c.from_residual-in_err-heap.result fault c.from_residual-in_err-heap.ensures.1
    (answered g.R.Source.left g.R.Source.health g.R.Source.pulls c.args.limits c.args.readers.now c.read_all.new.readers first.parts
    first.stored first.given (λ refusal. c.conflicts_of_objects_come_last.ensures.others (given_of first.parts) refusal) (Err fault)
    (c.in_err-heap.ensures (others_of first.parts) first.holds.gathers)).0

pub returns-in_err-heap-clause-no_other : goal.returns-in_err-heap-clause-no_other
returns-in_err-heap-clause-no_other g c =
    let first = c.in_ok-sink.ensures.read in
    let fault = c.in_err-heap.field-0.0 in
    of_fault (λ (r : Result (StoredHeap g.row.S.Denot × Option g.row.T.Denot) StoredFault). HasNoOther g.R.Source.left
    g.R.Source.health c.args.readers.now c.read_all.new.readers (stopped_by r))
    c.from_residual-in_err-heap.result fault c.from_residual-in_err-heap.ensures.1
    (answered g.R.Source.left g.R.Source.health g.R.Source.pulls c.args.limits c.args.readers.now c.read_all.new.readers first.parts
    first.stored first.given (λ refusal. c.conflicts_of_objects_come_last.ensures.others (given_of first.parts) refusal) (Err fault)
    (c.in_err-heap.ensures (others_of first.parts) first.holds.gathers)).1

pub returns-clause-ok : goal.returns-clause-ok
returns-clause-ok g c =
    let first = c.in_ok-sink.ensures.read in
    let sink = c.in_ok-sink.sink in
    record {
      holds = record {
        parts = first.parts;
        stored = by_all g.R.Source.left (λ (l : List (Option (List ℕ))). AreStored c.args.limits l first.parts) c.args.readers.now
            first.stored;
        given = by_all g.R.Source.left (λ (l : List (Option (List ℕ))). AreGiven c.args.limits l (given_of first.parts)) c.args.readers.now
            first.given;
        tells = c.in_ok-heap.ensures (others_of first.parts) first.holds.gathers;
        objects = first.holds.logs;
        well = sink.sink.well first.holds.sound;
      };
      watched = first.watched;
    }

pub returns-clause-dropped : goal.returns-clause-dropped
returns-clause-dropped g c =
    let first = c.in_ok-sink.ensures.read in
    record {
      parts = first.parts;
      stored = by_all g.R.Source.left (λ (l : List (Option (List ℕ))). AreStored c.args.limits l first.parts) c.args.readers.now
          first.stored;
      dropped = first.dropped;
    }

pub returns-clause-reads : goal.returns-clause-reads
returns-clause-reads g c =
    let first = c.in_ok-sink.ensures.read in
    (answered g.R.Source.left g.R.Source.health g.R.Source.pulls c.args.limits c.args.readers.now c.read_all.new.readers first.parts
    first.stored first.given (λ refusal. c.conflicts_of_objects_come_last.ensures.others (given_of first.parts) refusal)
    (Ok c.in_ok-heap.heap) (c.in_ok-heap.ensures (others_of first.parts) first.holds.gathers)).0
