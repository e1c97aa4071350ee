use Rattle.std.proofs.Common.{arith}
use Rattle.hprof_heap.specs.ClassDump.{class_value}
use Rattle.hprof_heap.specs.HeapFacts.{facts_of}
use Rattle.hprof_reports.proofs.Finding.{found_here, not_at_end, not_missing, still_above, still_all, still_past, still_same}
use Rattle.hprof_reports.proofs.field_names.FieldNames.name_at.Goals as goal

pub loop-passed-init : goal.loop-passed-init
loop-passed-init c = record {
  skips = λ skips. skips;
  still = λ skips.
      let counted = c.table_len-passed-end.ensures in
      still_all (facts_of c.args.heap.now) c.args.class c.args.place _ c.holds_of_heap.ensures.agree (omega (arith, counted));
}

pub returns-in_default-clause-name : goal.returns-in_default-clause-name
returns-in_default-clause-name c = λ skips slots slot known there.
    let facts = facts_of c.args.heap.now in
    let before = c.loop-passed.invariant in
    let still = still_past facts c.args.class c.args.place c.loop-passed.at c.loop-passed.before _ (before.still skips) c.in_ok-at.at
    (c.in_ok-at.ensures.same (before.skips skips)) in
    absurd (not_missing facts c.args.class c.args.place c.in_ok-at.at c.loop-passed.before _ still c.in_default.ensures.none slots slot
    known there)

pub returns-in-Some-get-clause-name : goal.returns-in-Some-get-clause-name
returns-in-Some-get-clause-name c = λ skips slots slot known there.
    let facts = facts_of c.args.heap.now in
    let before = c.loop-passed.invariant in
    let still = still_past facts c.args.class c.args.place c.loop-passed.at c.loop-passed.before _ (before.still skips) c.in_ok-at.at
    (c.in_ok-at.ensures.same (before.skips skips)) in
    found_here facts c.args.class c.args.place c.in_ok-at.at c.loop-passed.before _ still
    (class_value c.in-Some.dump) c.in-Some.ensures.only
    c.in-Some-get.field c.in-Some-get.ensures slots slot known there

pub returns-in-Some-get-clause-skips : goal.returns-in-Some-get-clause-skips
returns-in-Some-get-clause-skips c = λ skips. c.in_ok-at.ensures.skips (c.loop-passed.invariant.skips skips)

pub loop-passed-preserved : goal.loop-passed-preserved
loop-passed-preserved c = record {
  skips = λ skips. c.in_ok-at.ensures.skips (c.loop-passed.invariant.skips skips);
  still = λ skips.
      let facts = facts_of c.args.heap.now in
      let before = c.loop-passed.invariant in
      let still = still_past facts c.args.class c.args.place c.loop-passed.at c.loop-passed.before _ (before.still skips) c.in_ok-at.at
      (c.in_ok-at.ensures.same (before.skips skips)) in
      let counted = c.len.ensures in
      let less = c.saturating_sub-before.ensures in
      let passed = c.loop-passed-test.true in
      still_same facts c.args.class c.args.place c.in-Some.dump.parent _ _ _ _ (omega (arith, counted, less)) (omega (arith, passed))
      (still_above facts c.args.class c.args.place c.in_ok-at.at c.loop-passed.before _ still (class_value c.in-Some.dump)
      c.in-Some.ensures.only c.in_default-get.ensures);
}

pub returns-clause-name : goal.returns-clause-name
returns-clause-name c = λ skips slots slot known there.
    let passed = c.loop-passed-test.false in
    absurd (not_at_end (facts_of c.args.heap.now) c.args.class c.args.place c.loop-passed.at c.loop-passed.before _
    (c.loop-passed.invariant.still skips) (omega (arith, passed)) slots slot known there)
