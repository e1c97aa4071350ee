use Rattle.std.proofs.Common.{length, sym, ap, ◌∙◌}
use Rattle.std.proofs.lemmas.List.{length-append}
use Rattle.hprof_heap.specs.Heap.{heap_of}
use Rattle.hprof_objects.specs.StoredObjects.{objects_of}
use Rattle.hprof_stored.proofs.Found.{finds}
use Rattle.hprof_stored101.specs.ByteCounter.{Counts, capped}
use Rattle.hprof_stored101.specs.Dumping101.{own_bytes, rows_bytes}
use Rattle.hprof_stored101.proofs.Counted.{all_counted}
use Rattle.hprof_stored101.proofs.body_len.body_len.Goals as goal

pub returns-in-Ok-clause-len : goal.returns-in-Ok-clause-len
returns-in-Ok-clause-len g c = λ reads told.
    let own = own_bytes (heap_of c.args.heap.now) in
    let counted = all_counted (length own) (objects_of reads) _ _ c.own_len.ensures (c.in-Ok.ensures.objects reads told) in
    (counted.0, counted.1, counted.2 ∙ ap capped (sym (length-append own (rows_bytes counted.0))))

pub returns-in-Err-clause-least : goal.returns-in-Err-clause-least
returns-in-Err-clause-least g c = λ reads told. finds Counts (objects_of reads) c.in-Err.stop _ _ (c.in-Err.ensures.objects reads told)
