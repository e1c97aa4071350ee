use Rattle.std.proofs.Common.{refl, string_bytes}
use Rattle.std.proofs.lemmas.List.{nil_from_length}
use Rattle.hprof_heap.specs.HeapFacts.{facts_of}
use Rattle.hprof_diff.proofs.Keeping.{kept_begins, kept_ends, kept_more, run_taken}
use Rattle.hprof_diff.proofs.label_counts.LabelCounts.of_parts.Goals as goal

pub loop-first-init : goal.loop-first-init
loop-first-init c = kept_begins (facts_of c.args.heap.now) c.args.parts.now c.args.parts.now c.new-counts.result c.new-counts.ensures refl

pub loop-first-preserved : goal.loop-first-preserved
loop-first-preserved c =
    let run = run_taken c.loop-first.rest.now c.in-Some.after.now c.first_run.result.1.now c.in-Some.first.now c.first_run.result.0
    c.in-Some.ensures.cases.0 c.first_run.ensures.same in
    kept_more (facts_of c.args.heap.now) c.holds_of_heap.ensures.agree c.args.parts.now c.loop-first.rest.now c.first_run.result.1.now
    c.first_run.result.0 run (string_bytes c.in_ok-label.label) c.in_ok-label.ensures c.loop-first.counts c.loop-first.invariant
    c.add.new.self c.in_ok-add.ensures

pub returns : goal.returns
returns c =
    kept_ends (facts_of c.args.heap.now) c.args.parts.now c.loop-first.rest.now c.loop-first.counts
    (nil_from_length c.loop-first.rest.now c.in_default.ensures.cases) c.loop-first.invariant
