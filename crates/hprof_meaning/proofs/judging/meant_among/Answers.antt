use Rattle.std.proofs.Common.{ℕ, ap}
use Rattle.std.specs.BTreeMap.{is_at}
use Rattle.std.specs.Map.{lookup}
use Rattle.std.specs.Ordering.{nat_cmp}
use Rattle.std.proofs.lemmas.List.{nil_from_length}
use Rattle.hprof_heap.specs.HeapFacts.{facts_of}
use Rattle.hprof_meaning.proofs.JudgedNames.{found_all, found_begins, found_more}
use Rattle.hprof_meaning.proofs.judging.meant_among.Goals as goal

pub loop-class-init : goal.loop-class-init
loop-class-init c = λ word label meant are.
    found_begins (facts_of c.args.heap.now) word label are c.args.classes.now c.new-found.result.items c.new-judged.result
    c.new-found.ensures.items (λ (name : ℕ). ap (lookup (is_at (nat_cmp name))) c.new-judged.ensures.empty)

pub loop-class-preserved : goal.loop-class-preserved
loop-class-preserved c = λ word label meant are.
    let to = c.loop-class.invariant word label meant are in
    let told = c.in_ok-is_meant.ensures word meant to.are_judged in
    found_more (facts_of c.args.heap.now) word label are c.args.classes.now c.loop-class.found.items c.push_if.new.found.items
    c.loop-class.rest.now c.in-Some.after.now c.loop-class.judged c.judge_class.new.judged c.in-Some.class.now c.in_ok-is_meant.is_meant
    c.in-Some.ensures.cases.0 c.in_ok-push_if.ensures told.0 told.1 to

pub returns : goal.returns
returns c = λ word label meant are.
    found_all (facts_of c.args.heap.now) word label are c.args.classes.now c.loop-class.found.items c.loop-class.rest.now
    c.loop-class.judged (nil_from_length c.loop-class.rest.now c.in_default.ensures.cases) (c.loop-class.invariant word label meant are)
