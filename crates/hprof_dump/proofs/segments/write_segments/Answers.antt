use Rattle.std.proofs.Common.{◌≡◌, List, length, take, subst, sym, ◌∙◌, rules}
use Rattle.std.specs.Prelude.{IfSome}
use Rattle.std.specs.Io.KnownBytes.{Appends}
use Rattle.std.specs.List.{flat_map}
use Rattle.std.proofs.lemmas.Result.{err_from_is_err_and}
use Rattle.hprof_values.specs.declared.ids.IdSize.{IdSize}
use Rattle.hprof_items.specs.FactValue.{FactValue}
use Rattle.hprof_items.specs.SubRecord.{dump_bytes}
use Rattle.hprof_devices.proofs.Writes.{WritesFront}
use Rattle.hprof_rows.specs.SubFacts.{sub_facts}
use Rattle.hprof_dump.specs.Dump.{segments_of, segment_bytes}
use Rattle.hprof_heap.specs.Heap.{heap_of}
use Rattle.hprof_rows.specs.SubRow.{IsWritable}
use Rattle.hprof_dump.specs.Counted.{with_taken}
use Rattle.hprof_rows.specs.SubRows.{subs_left, subs_ids}
use Rattle.hprof_dump.proofs.Counting.{counted-drop, counted-first, counted-len, taken_all, counted_left}
use Rattle.hprof_devices.proofs.OneByOne.{Wrote, Wrote-none, Wrote-more, Wrote-stops}
use Rattle.hprof_dump.proofs.segments.write_segments.Goals as goal

pub loop-next-init : goal.loop-next-init
loop-next-init g c =
    let heap = heap_of c.args.heap.now in
    let written = g.W.Target.written c.args.target.now in
    let ids = c.sub_rows-ahead.ensures.ids in
    let old = c.sub_rows-ahead.result in
    let taken = c.next-next.result in
    let new = c.next-next.new.self in
    let all = segments_of heap.ids (sub_facts heap.facts) in
    record {
      wrote =
          subst (λ (subs : List FactValue). Wrote (segment_bytes heap.ids) written written all (segments_of heap.ids subs))
          (sym c.sub_rows-rows.ensures.all)
          (Wrote-none (segment_bytes heap.ids) written all);
      ahead = subst (λ (i : IdSize). with_taken i taken (subs_left new) ≡ subs_left old) ids (taken_all old taken new c.next-next.ensures)
          ∙ c.sub_rows-ahead.ensures.all ∙ sym c.sub_rows-rows.ensures.all;
      writable = subst (λ (i : IdSize). IfSome taken (IsWritable i)) ids c.next-next.ensures.writable;
      has_ids = c.sub_rows-rows.ensures.ids;
      ahead_ids = c.next-next.ensures.has_ids ∙ ids;
      well = c.requires;
    }

pub write_segment-requires-clause-len : goal.write_segment-requires-clause-len
write_segment-requires-clause-len g c =
    let ids = (heap_of c.args.heap.now).ids in
    let loop = c.loop-next in
    let subs = subs_left loop.rows in
    let after = subs_left c.count_segment-segment.new.ahead in
    let r = c.count_segment-segment.result in
    let counted = counted_left (subs_ids loop.ahead) ids loop.next c.in-Some.first r.next (subs_left loop.ahead) subs after r.count r.len
    c.in-Some.is loop.invariant.ahead_ids loop.invariant.ahead c.count_segment-segment.ensures.counted in
    subst (λ (i : IdSize). r.len ≡ length (flat_map (dump_bytes i) (take r.count subs))) (sym loop.invariant.has_ids)
    (counted-len ids subs (with_taken ids r.next after) r.count r.len counted)

pub returns-in_err-write_segment-clause-bytes : goal.returns-in_err-write_segment-clause-bytes
returns-in_err-write_segment-clause-bytes g c =
    let p = err_from_is_err_and c.from_residual.result c.from_residual.ensures.1 in
    let heap = heap_of c.args.heap.now in
    let ids = heap.ids in
    let loop = c.loop-next in
    let old = g.W.Target.written c.args.target.now in
    let mid = g.W.Target.written loop.target in
    let new = g.W.Target.written c.write_segment.new.target in
    let subs = subs_left loop.rows in
    let after = subs_left c.count_segment-segment.new.ahead in
    let r = c.count_segment-segment.result in
    let all = segments_of ids (sub_facts heap.facts) in
    let counted = counted_left (subs_ids loop.ahead) ids loop.next c.in-Some.first r.next (subs_left loop.ahead) subs after r.count r.len
    c.in-Some.is loop.invariant.ahead_ids loop.invariant.ahead c.count_segment-segment.ensures.counted in
    let rest = with_taken ids r.next after in
    let first = counted-first ids subs rest r.count r.len counted in
    Wrote-stops (segment_bytes ids) old mid new c.from_residual.result p.0 all (take r.count subs) (segments_of ids rest) p.1
    (subst (Wrote (segment_bytes ids) old mid all) first loop.invariant.wrote)
    (subst (λ (i : IdSize). WritesFront mid new (segment_bytes i (take r.count subs))) loop.invariant.has_ids
    c.in_err-write_segment.ensures.bytes)

pub loop-next-preserved : goal.loop-next-preserved
loop-next-preserved g c =
    let heap = heap_of c.args.heap.now in
    let ids = heap.ids in
    let loop = c.loop-next in
    let old = g.W.Target.written c.args.target.now in
    let mid = g.W.Target.written loop.target in
    let new = g.W.Target.written c.write_segment.new.target in
    let subs = subs_left loop.rows in
    let after = subs_left c.count_segment-segment.new.ahead in
    let r = c.count_segment-segment.result in
    let all = segments_of ids (sub_facts heap.facts) in
    let counted = counted_left (subs_ids loop.ahead) ids loop.next c.in-Some.first r.next (subs_left loop.ahead) subs after r.count r.len
    c.in-Some.is loop.invariant.ahead_ids loop.invariant.ahead c.count_segment-segment.ensures.counted in
    let rest = with_taken ids r.next after in
    let first = counted-first ids subs rest r.count r.len counted in
    let behind : subs_left c.write_segment.new.rows ≡ rest =
    c.in_ok-write_segment.ensures.left ∙ counted-drop ids subs rest r.count r.len counted in
    record {
      wrote = subst (λ (l : List FactValue). Wrote (segment_bytes ids) old new all (segments_of ids l)) (sym behind)
          (Wrote-more (segment_bytes ids) old mid new all (take r.count subs) (segments_of ids rest)
          (subst (Wrote (segment_bytes ids) old mid all) first loop.invariant.wrote)
          (subst (λ (i : IdSize). Appends mid new (segment_bytes i (take r.count subs))) loop.invariant.has_ids
          c.in_ok-write_segment.ensures.bytes));
      ahead = sym behind;
      writable = subst (λ (i : IdSize). IfSome r.next (IsWritable i)) loop.invariant.ahead_ids c.count_segment-segment.ensures.next;
      has_ids = c.write_segment.ensures.ids ∙ loop.invariant.has_ids;
      ahead_ids = c.count_segment-segment.ensures.ids ∙ loop.invariant.ahead_ids;
      well = c.in_ok-write_segment.ensures.health;
    }

pub returns-clause-bytes : goal.returns-clause-bytes
returns-clause-bytes g c = search rules

pub returns-clause-health : goal.returns-clause-health
returns-clause-health g c = search rules

pub returns-in_err-write_segment-clause-health : goal.returns-in_err-write_segment-clause-health
returns-in_err-write_segment-clause-health g c = search rules
