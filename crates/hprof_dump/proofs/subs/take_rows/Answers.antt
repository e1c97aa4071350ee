use Rattle.std.proofs.Common.{◌≡◌, List, ◌++◌, ◌∷◌, ℕ, sym, subst, ◌∙◌}
use Rattle.std.specs.Io.KnownBytes.{Appends}
use Rattle.std.proofs.lemmas.Result.{err_from_is_err_and}
use Rattle.hprof_values.specs.declared.ids.IdSize.{IdSize}
use Rattle.hprof_items.specs.SubRecord.{dump_bytes}
use Rattle.hprof_devices.proofs.Writes.{WritesFront}
use Rattle.hprof_rows.specs.SubFacts.{sub_facts}
use Rattle.hprof_rows.specs.SubRow.{sub_fact}
use Rattle.hprof_rows.specs.SubRows.{subs_left}
use Rattle.hprof_heap.specs.Heap.{heap_of}
use Rattle.hprof_dump.specs.Batch.{batch_bytes}
use Rattle.hprof_dump.proofs.Batches.{Taken, Taken-none, Taken-more, Taken-stops, Taken-all, stops}
use Rattle.hprof_dump.proofs.subs.take_rows.Goals as goal

pub loop-row-init : goal.loop-row-init
loop-row-init g c =
    let heap = heap_of c.args.heap.now in
    let written = g.W.Target.written c.args.target.now in
    let all = sub_facts heap.facts in
    let start = batch_bytes c.args.batch.now in
    record {
      taken = subst (Taken (dump_bytes heap.ids) written written start start all) (sym c.sub_rows-rows.ensures.all)
          (Taken-none (dump_bytes heap.ids) written start all);
      has_ids = c.sub_rows-rows.ensures.ids;
      well = c.requires;
    }

pub loop-row-preserved : goal.loop-row-preserved
loop-row-preserved g c =
    let heap = heap_of c.args.heap.now in
    let ids = heap.ids in
    let all = sub_facts heap.facts in
    let loop = c.loop-row in
    let old = g.W.Target.written c.args.target.now in
    let mid = g.W.Target.written loop.target in
    let new = g.W.Target.written c.take.new.target in
    let row = c.in-Some.row in
    let rest = subs_left c.next.new.self in
    let start = batch_bytes c.args.batch.now in
    let waiting = batch_bytes loop.batch in
    let then = batch_bytes c.take.new.self in
    let next = subst (λ (i : IdSize). subs_left loop.rows ≡ sub_fact i row ∷ rest) loop.invariant.has_ids c.in-Some.ensures.first in
    let some = subst (λ (i : IdSize). (front : List ℕ) × Appends mid new front × (waiting ++ dump_bytes i (sub_fact i row) ≡ front ++ then))
    (c.ids-ids.ensures ∙ c.sub_rows-rows.ensures.ids) c.in_ok-take.ensures.bytes in
    record {
      taken = Taken-more (dump_bytes ids) old mid new start waiting then all (sub_fact ids row) rest
          (subst (Taken (dump_bytes ids) old mid start waiting all) next loop.invariant.taken) some.0 some.1 some.2;
      has_ids = c.next.ensures.has_ids ∙ loop.invariant.has_ids;
      well = c.in_ok-take.ensures.health;
    }

pub returns-in_err-take-clause-bytes : goal.returns-in_err-take-clause-bytes
returns-in_err-take-clause-bytes g c =
    let r = c.from_residual.result in
    let p = err_from_is_err_and r c.from_residual.ensures.1 in
    let heap = heap_of c.args.heap.now in
    let ids = heap.ids in
    let all = sub_facts heap.facts in
    let loop = c.loop-row in
    let old = g.W.Target.written c.args.target.now in
    let mid = g.W.Target.written loop.target in
    let new = g.W.Target.written c.take.new.target in
    let row = c.in-Some.row in
    let rest = subs_left c.next.new.self in
    let start = batch_bytes c.args.batch.now in
    let waiting = batch_bytes loop.batch in
    let next = subst (λ (i : IdSize). subs_left loop.rows ≡ sub_fact i row ∷ rest) loop.invariant.has_ids c.in-Some.ensures.first in
    stops old new r p.0 _ _ p.1
    (Taken-stops (dump_bytes ids) old mid new r p.0 start waiting all (sub_fact ids row) rest p.1
    (subst (Taken (dump_bytes ids) old mid start waiting all) next loop.invariant.taken)
    (subst (λ (i : IdSize). WritesFront mid new (waiting ++ dump_bytes i (sub_fact i row)))
    (c.ids-ids.ensures ∙ c.sub_rows-rows.ensures.ids)
    c.in_err-take.ensures.bytes))

pub returns-clause-bytes : goal.returns-clause-bytes
returns-clause-bytes g c =
    let heap = heap_of c.args.heap.now in
    let all = sub_facts heap.facts in
    let loop = c.loop-row in
    let old = g.W.Target.written c.args.target.now in
    let new = g.W.Target.written loop.target in
    Taken-all (dump_bytes heap.ids) old new (batch_bytes c.args.batch.now) (batch_bytes loop.batch) all (subs_left loop.rows)
    loop.invariant.taken c.in_default.ensures.first.0
