use Rattle.std.proofs.Common.{ℕ, List, ◌++◌, ap, subst}
use Rattle.std.specs.List.{flat_map}
use Rattle.std.proofs.lemmas.Result.{err_from_is_err_and}
use Rattle.hprof_devices.specs.Device.{Writes}
use Rattle.hprof_devices.proofs.Writes.{WritesFront}
use Rattle.hprof_items.specs.SubRecord.{dump_bytes}
use Rattle.hprof_rows.specs.SubFacts.{sub_facts}
use Rattle.hprof_heap.specs.Heap.{heap_of}
use Rattle.hprof_dump.proofs.Batches.{then_writes, stopped}
use Rattle.hprof_dump.proofs.subs.write_rows.Goals as goal

pub returns-in_err-take_rows-clause-bytes : goal.returns-in_err-take_rows-clause-bytes
returns-in_err-take_rows-clause-bytes g c =
    let r = c.from_residual.result in
    let all = flat_map (dump_bytes (heap_of c.args.heap.now).ids) (sub_facts (heap_of c.args.heap.now).facts) in
    let p = err_from_is_err_and r c.from_residual.ensures.1 in
    stopped _ _ r p.0 _ p.1
    (subst (WritesFront _ _) (ap (λ (l : List ℕ). l ++ all) c.empty-batch.ensures) c.in_err-take_rows.ensures.bytes)

pub returns-clause-bytes : goal.returns-clause-bytes
returns-clause-bytes g c =
    let all = flat_map (dump_bytes (heap_of c.args.heap.now).ids) (sub_facts (heap_of c.args.heap.now).facts) in
    subst (Writes _ _ c.write.result) (ap (λ (l : List ℕ). l ++ all) c.empty-batch.ensures)
    (then_writes _ _ _ c.in_ok-take_rows.field-0 c.write.result _ _ c.in_ok-take_rows.ensures.bytes c.write.ensures.bytes)
