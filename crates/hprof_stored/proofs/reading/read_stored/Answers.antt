use Rattle.std.proofs.Common.{Result}
use Rattle.hprof_stored.specs.declared.stored_fault.StoredFault.{StoredFault}
use Rattle.hprof_stored.specs.declared.stored_heap.StoredHeap.{StoredHeap}
use Rattle.hprof_stored.specs.Reading.{stopped_by}
use Rattle.hprof_stored.proofs.Answered.{HasNoOther, of_fault}
use Rattle.hprof_stored.proofs.reading.read_stored.Goals as goal

pub returns-in_err-stored-clause-no_other : goal.returns-in_err-stored-clause-no_other
returns-in_err-stored-clause-no_other g c =
    of_fault (λ (r : Result (StoredHeap g.row.S.Denot) StoredFault). HasNoOther g.R.Source.left g.R.Source.health c.args.readers.now
    c.read_watched.new.readers (stopped_by r)) c.from_residual.result c.in_err-stored.field-0.0 c.from_residual.ensures.1
    c.in_err-stored.ensures.no_other
