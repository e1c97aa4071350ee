use Rattle.std.proofs.Common.{◌≡◌, List, [], ◌∷◌, ◌++◌, sym, ap, subst, ◌∙◌, append_assoc}
use Rattle.std.specs.Io.KnownBytes.{Appends}
use Rattle.std.proofs.KnownBytes.{Appends-nil}
use Rattle.std.proofs.lemmas.Result.{err_from_is_err_and}
use Rattle.hprof_values.specs.declared.ids.IdSize.{IdSize}
use Rattle.hprof_devices.proofs.Writes.{WritesFront}
use Rattle.hprof_items.specs.FactValue.{FactValue}
use Rattle.hprof_items.specs.SubRecord.{dump_bytes}
use Rattle.hprof_dump.proofs.Batches.{stopped}
use Rattle.hprof_rows.specs.SubFacts.{sub_facts}
use Rattle.hprof_rows.specs.SubRow.{sub_fact}
use Rattle.hprof_rows.specs.SubRows.{subs_left}
use Rattle.hprof_heap.specs.Heap.{heap_of}
use Rattle.hprof_stored101.specs.Dumping101.{own_bytes}
use Rattle.hprof_stored101.proofs.Pieces.{none_left, one_written, stops_at_one}
use Rattle.hprof_stored101.proofs.dumping101.write_subs.Goals as goal

pub loop-row-init : goal.loop-row-init
loop-row-init g c = record {
  done = [];
  split = sym c.sub_rows-rows.ensures.all;
  wrote = Appends-nil (g.W.Target.written c.args.target.now);
  has_ids = c.sub_rows-rows.ensures.ids;
  well = c.requires;
}

pub loop-row-preserved : goal.loop-row-preserved
loop-row-preserved g c =
    let heap = heap_of c.args.heap.now in
    let ids = heap.ids in
    let loop = c.loop-row in
    let row = c.in-Some.row in
    let rest = subs_left c.next.new.self in
    let old = g.W.Target.written c.args.target.now in
    let mid = g.W.Target.written loop.target in
    let new = g.W.Target.written c.write.new.target in
    let done = loop.invariant.done in
    let next = subst (λ (i : IdSize). subs_left loop.rows ≡ sub_fact i row ∷ rest) loop.invariant.has_ids c.in-Some.ensures.first in
    let then = subst (λ (i : IdSize). Appends mid new (dump_bytes i (sub_fact i row))) (c.ids-ids.ensures ∙ c.sub_rows-rows.ensures.ids)
    c.in_ok-write.ensures.bytes in
    record {
      done = done ++ sub_fact ids row ∷ [];
      split =
          loop.invariant.split
          ∙ ap (λ (l : List FactValue). done ++ l) next
          ∙ sym (append_assoc done (sub_fact ids row ∷ []) rest);
      wrote = one_written (dump_bytes ids) old mid new done (sub_fact ids row) loop.invariant.wrote then;
      has_ids = c.next.ensures.has_ids ∙ loop.invariant.has_ids;
      well = c.in_ok-write.ensures.health;
    }

pub returns-in_err-write-clause-bytes : goal.returns-in_err-write-clause-bytes
returns-in_err-write-clause-bytes g c =
    let r = c.from_residual.result in
    let p = err_from_is_err_and r c.from_residual.ensures.1 in
    let heap = heap_of c.args.heap.now in
    let ids = heap.ids in
    let loop = c.loop-row in
    let row = c.in-Some.row in
    let rest = subs_left c.next.new.self in
    let old = g.W.Target.written c.args.target.now in
    let mid = g.W.Target.written loop.target in
    let new = g.W.Target.written c.write.new.target in
    let done = loop.invariant.done in
    let next = subst (λ (i : IdSize). subs_left loop.rows ≡ sub_fact i row ∷ rest) loop.invariant.has_ids c.in-Some.ensures.first in
    stopped old new r p.0 (own_bytes heap) p.1
    (stops_at_one (dump_bytes ids) old mid new done (sub_fact ids row) rest (sub_facts heap.facts)
    (loop.invariant.split ∙ ap (λ (l : List FactValue). done ++ l) next) loop.invariant.wrote
    (subst (λ (i : IdSize). WritesFront mid new (dump_bytes i (sub_fact i row))) (c.ids-ids.ensures ∙ c.sub_rows-rows.ensures.ids)
    c.in_err-write.ensures.bytes))

pub returns-clause-bytes : goal.returns-clause-bytes
returns-clause-bytes g c =
    let heap = heap_of c.args.heap.now in
    let loop = c.loop-row in
    subst (Appends (g.W.Target.written c.args.target.now) (g.W.Target.written loop.target))
    (none_left (dump_bytes heap.ids) loop.invariant.done (subs_left loop.rows) (sub_facts heap.facts) loop.invariant.split
    c.in_default.ensures.first.0) loop.invariant.wrote
