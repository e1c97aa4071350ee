use Rattle.std.proofs.Common.{◌<◌, arith}
use Rattle.hprof_heap.specs.HeapFacts.{facts_of}
use Rattle.hprof_heap.specs.ClassDump.{class_value}
use Rattle.hprof_layouts.proofs.Walks.{walked_round, watching_none, watched_more, watched_round}
use Rattle.hprof_layouts.proofs.chain.chain_end.Goals as goal

pub loop-at-init : goal.loop-at-init
loop-at-init c = watching_none (facts_of c.args.heap.now) c.args.class _ c.table_len-classes.ensures

pub loop-at-preserved : goal.loop-at-preserved
loop-at-preserved c =
    let invariant = c.loop-at.invariant in
    let few = invariant.walking.few in
    let lt : c.loop-at.passed < c.table_len-classes.result = omega arith in
    watched_more (facts_of c.args.heap.now) c.args.class _ _ _ _ invariant (class_value c.in-Some.dump) c.loop-at-test.true
    c.in-Some.ensures.found c.in-Some.ensures.id lt _ c.behind-mark.ensures

pub returns-then-passed-classes : goal.returns-then-passed-classes
returns-then-passed-classes c =
    walked_round (facts_of c.args.heap.now) c.args.class _ _ _ c.loop-at.invariant.walking (class_value c.in-Some.dump) c.loop-at-test.true
    c.in-Some.ensures.found c.in-Some.ensures.id c.if-passed-classes.true

pub returns-then-dump-mark : goal.returns-then-dump-mark
returns-then-dump-mark c =
    watched_round (facts_of c.args.heap.now) c.args.class _ _ _ _ c.loop-at.invariant (class_value c.in-Some.dump) c.loop-at-test.true
    c.in-Some.ensures.found c.in-Some.ensures.id c.if-dump-mark.true
