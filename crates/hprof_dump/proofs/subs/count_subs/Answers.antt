use Rattle.std.proofs.Common.{◌≡◌, ◌∷◌, length, subst, ◌∙◌, arith}
use Rattle.hprof_values.specs.declared.ids.IdSize.{IdSize}
use Rattle.hprof_items.specs.SubRecord.{dump_bytes}
use Rattle.hprof_rows.specs.SubFacts.{sub_facts}
use Rattle.hprof_rows.specs.SubRow.{sub_fact}
use Rattle.hprof_rows.specs.SubRows.{subs_left}
use Rattle.hprof_heap.specs.Heap.{heap_of}
use Rattle.hprof_dump.proofs.Counting101.{Counts, Counts-none, Counts-more, Counts-over, Counts-all}
use Rattle.hprof_dump.proofs.subs.count_subs.Goals as goal

pub loop-row-init : goal.loop-row-init
loop-row-init c =
    let heap = heap_of c.args.heap.now in
    record {
      counts = Counts-none heap.ids (sub_facts heap.facts) (subs_left c.sub_rows-rows.result) c.sub_rows-rows.ensures.all;
      short = omega arith;
      has_ids = c.sub_rows-rows.ensures.ids;
    }

pub loop-row-preserved : goal.loop-row-preserved
loop-row-preserved c =
    let heap = heap_of c.args.heap.now in
    let ids = heap.ids in
    let subs = sub_facts heap.facts in
    let loop = c.loop-row in
    let row = c.in-Some.row in
    let rest = subs_left c.next.new.self in
    let next = subst (λ (i : IdSize). subs_left loop.rows ≡ sub_fact i row ∷ rest) loop.invariant.has_ids c.in-Some.ensures.first in
    let size = subst (λ (i : IdSize). c.len-len.result ≡ length (dump_bytes i (sub_fact i row)))
    (c.ids-ids.ensures ∙ c.sub_rows-rows.ensures.ids) c.len-len.ensures.value in
    record {
      counts = Counts-more ids subs loop.len c.len-len.result (sub_fact ids row) rest
          (subst (Counts ids subs loop.len) next loop.invariant.counts)
          size;
      short = omega (arith, c.if-len-from.false, c.from.ensures);
      has_ids = c.next.ensures.has_ids ∙ loop.invariant.has_ids;
    }

pub returns-then-len-from-clause-len : goal.returns-then-len-from-clause-len
returns-then-len-from-clause-len c =
    let heap = heap_of c.args.heap.now in
    let ids = heap.ids in
    let subs = sub_facts heap.facts in
    let loop = c.loop-row in
    let row = c.in-Some.row in
    let rest = subs_left c.next.new.self in
    let next = subst (λ (i : IdSize). subs_left loop.rows ≡ sub_fact i row ∷ rest) loop.invariant.has_ids c.in-Some.ensures.first in
    let size = subst (λ (i : IdSize). c.len-len.result ≡ length (dump_bytes i (sub_fact i row)))
    (c.ids-ids.ensures ∙ c.sub_rows-rows.ensures.ids) c.len-len.ensures.value in
    Counts-over ids subs loop.len c.len-len.result c.args.most (sub_fact ids row) rest
    (subst (Counts ids subs loop.len) next loop.invariant.counts) size (omega (arith, c.if-len-from.true, c.from.ensures))

pub returns-clause-len : goal.returns-clause-len
returns-clause-len c =
    let heap = heap_of c.args.heap.now in
    let loop = c.loop-row in
    Counts-all heap.ids (sub_facts heap.facts) loop.len (subs_left loop.rows) loop.invariant.counts c.in_default.ensures.first.0
