use Rattle.std.proofs.Common.{◌≡◌, ◌∷◌, length, refl, subst, ◌∙◌, rules}
use Rattle.hprof_values.specs.declared.ids.IdSize.{IdSize}
use Rattle.hprof_items.specs.SubRecord.{dump_bytes}
use Rattle.hprof_rows.specs.SubRow.{sub_fact}
use Rattle.hprof_rows.specs.SubRows.{subs_left, subs_ids}
use Rattle.hprof_dump.proofs.Counting.{Counts, Counts-first, Counts-more, Counts-full, Counts-all}
use Rattle.hprof_dump.proofs.segments.count_segment.Goals as goal

pub loop-row-init : goal.loop-row-init
loop-row-init c =
    let ids = subs_ids c.args.ahead.now in
    let first = c.args.first in
    let len = c.len-len.result in
    let size = subst (λ (i : IdSize). len ≡ length (dump_bytes i (sub_fact i first))) c.ids-ids.ensures c.len-len.ensures.value in
    record {
      counts = Counts-first ids (sub_fact ids first) (subs_left c.args.ahead.now) len size c.len-len.ensures.some c.len-len.ensures.short;
      has_ids = refl;
    }

pub returns-then-longer-gt-MOST_IN_SEGMENT-clause-counted : goal.returns-then-longer-gt-MOST_IN_SEGMENT-clause-counted
returns-then-longer-gt-MOST_IN_SEGMENT-clause-counted c =
    let ids = subs_ids c.args.ahead.now in
    let row = c.in-Some.row in
    let rest = subs_left c.next.new.self in
    let loop = c.loop-row in
    let subs = sub_fact ids c.args.first ∷ subs_left c.args.ahead.now in
    let next = subst (λ (i : IdSize). subs_left loop.ahead ≡ sub_fact i row ∷ rest) loop.invariant.has_ids c.in-Some.ensures.first in
    let size = subst (λ (i : IdSize). c.len.result ≡ length (dump_bytes i (sub_fact i row))) c.ids-ids.ensures c.len.ensures.value in
    Counts-full ids subs loop.count loop.len c.len.result (sub_fact ids row) rest
    (subst (Counts ids subs loop.count loop.len) next loop.invariant.counts) size
    c.if-longer-gt-MOST_IN_SEGMENT.true

pub loop-row-preserved : goal.loop-row-preserved
loop-row-preserved c =
    let ids = subs_ids c.args.ahead.now in
    let row = c.in-Some.row in
    let rest = subs_left c.next.new.self in
    let loop = c.loop-row in
    let subs = sub_fact ids c.args.first ∷ subs_left c.args.ahead.now in
    let next = subst (λ (i : IdSize). subs_left loop.ahead ≡ sub_fact i row ∷ rest) loop.invariant.has_ids c.in-Some.ensures.first in
    let size = subst (λ (i : IdSize). c.len.result ≡ length (dump_bytes i (sub_fact i row))) c.ids-ids.ensures c.len.ensures.value in
    record {
      counts =
          Counts-more ids subs loop.count loop.len c.len.result (sub_fact ids row) rest
          (subst (Counts ids subs loop.count loop.len) next loop.invariant.counts) size
          c.len.ensures.some c.if-longer-gt-MOST_IN_SEGMENT.false;
      has_ids = c.next.ensures.has_ids ∙ loop.invariant.has_ids;
    }

pub returns-clause-counted : goal.returns-clause-counted
returns-clause-counted c =
    let ids = subs_ids c.args.ahead.now in
    let loop = c.loop-row in
    let subs = sub_fact ids c.args.first ∷ subs_left c.args.ahead.now in
    Counts-all ids subs loop.count loop.len (subst (Counts ids subs loop.count loop.len) c.in_default.ensures.first.0 loop.invariant.counts)

pub returns-then-longer-gt-MOST_IN_SEGMENT-clause-ids : goal.returns-then-longer-gt-MOST_IN_SEGMENT-clause-ids
returns-then-longer-gt-MOST_IN_SEGMENT-clause-ids c = search rules

pub returns-then-longer-gt-MOST_IN_SEGMENT-clause-next : goal.returns-then-longer-gt-MOST_IN_SEGMENT-clause-next
returns-then-longer-gt-MOST_IN_SEGMENT-clause-next c = search rules
