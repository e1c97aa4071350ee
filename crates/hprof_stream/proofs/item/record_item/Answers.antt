use Rattle.std.proofs.Common.{sym, ◌∙◌}
use Rattle.hprof_items.specs.declared.head.HeadKind.TheVariants.{FactRecord, HeapDump, DumpEnd, Skipped}
use Rattle.hprof_stream.specs.ItemValue.{read_with}
use Rattle.hprof_stream.proofs.ItemSteps.{right_at_all, record_ends, fact_place, skipped_place}
use Rattle.hprof_stream.proofs.item.record_item.Goals as goal

pub fact_item-requires-clause-whole : goal.fact_item-requires-clause-whole
fact_item-requires-clause-whole c =
    let read = c.read_head.ensures.found c.in_ok-head.head _ c.in_ok-head.was in
    right_at_all c.args.header.now.ids c.args.longest c.in_ok-head.head read.2

pub returns-in-FactRecord-clause-place : goal.returns-in-FactRecord-clause-place
returns-in-FactRecord-clause-place c =
    let read = c.read_head.ensures.found c.in_ok-head.head _ c.in_ok-head.was in
    fact_place c.args.header.now c.args.bytes.now (read_with c.fact_item.result c.fact_item.new.fact) c.fact_item.ensures.fact
    (record_ends c.in_ok-head.head c.args.bytes.now _ FactRecord read.0 (sym c.in-FactRecord.is ∙ c.kind.ensures))

pub returns-in-HeapDump-clause-place : goal.returns-in-HeapDump-clause-place
returns-in-HeapDump-clause-place c =
    let read = c.read_head.ensures.found c.in_ok-head.head _ c.in_ok-head.was in
    (tt, record_ends c.in_ok-head.head c.args.bytes.now _ HeapDump read.0 (sym c.in-HeapDump.is ∙ c.kind.ensures))

pub returns-in-DumpEnd-clause-place : goal.returns-in-DumpEnd-clause-place
returns-in-DumpEnd-clause-place c =
    let read = c.read_head.ensures.found c.in_ok-head.head _ c.in_ok-head.was in
    (tt, record_ends c.in_ok-head.head c.args.bytes.now _ DumpEnd read.0 (sym c.in-DumpEnd.is ∙ c.kind.ensures))

pub returns-in-Skipped-clause-place : goal.returns-in-Skipped-clause-place
returns-in-Skipped-clause-place c =
    let read = c.read_head.ensures.found c.in_ok-head.head _ c.in_ok-head.was in
    skipped_place c.args.header.now c.args.bytes.now (read_with c.skipped_item.result c.args.fact.now)
    (c.skipped_item.ensures.skipped c.args.fact.now)
    (record_ends c.in_ok-head.head c.args.bytes.now _ Skipped read.0 (sym c.in-Skipped.is ∙ c.kind.ensures))
