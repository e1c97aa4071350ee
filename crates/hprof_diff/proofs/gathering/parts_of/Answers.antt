use Rattle.std.proofs.Common.{refl}
use Rattle.std.proofs.lemmas.List.{nil_from_length}
use Rattle.hprof_heap.specs.HeapFacts.{facts_of}
use Rattle.hprof_diff.proofs.Keeping.{parts_begin, parts_end, parts_labelled, parts_more}
use Rattle.hprof_diff.proofs.gathering.parts_of.Goals as goal

pub loop-row-init : goal.loop-row-init
loop-row-init c = parts_begin
    (facts_of c.args.heap.now) c.args.rows.now c.args.rows.now c.in_ok-parts.parts.items c.in_ok-parts.ensures.items refl

pub loop-row-preserved : goal.loop-row-preserved
loop-row-preserved c =
    parts_more (facts_of c.args.heap.now) c.holds_of_heap.ensures.agree c.args.rows.now c.loop-row.rest.now c.in-Some.after.now
    c.loop-row.parts.items
    c.push.new.self.items c.in-Some.row.now c.part_of.result c.part_of.ensures c.in-Some.ensures.cases.0 c.in_ok-push.ensures.items
    c.loop-row.invariant

pub returns : goal.returns
returns c =
    let facts = facts_of c.args.heap.now in
    record {
      labelled = parts_labelled facts c.args.rows.now c.loop-row.parts.items
          (parts_end facts c.args.rows.now c.loop-row.rest.now c.loop-row.parts.items
          (nil_from_length c.loop-row.rest.now c.in_default.ensures.cases) c.loop-row.invariant);
    }
