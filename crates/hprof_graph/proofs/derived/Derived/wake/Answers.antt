use Rattle.std.specs.Vec.Iter.{into_iter_items}
use Rattle.std.proofs.Common.{◌≡◌, [], ◌++◌, refl, sym, subst, ◌∙◌, arith}
use Rattle.hprof_heap.specs.HeapFacts.{facts_of, size_of}
use Rattle.hprof_layouts.proofs.Outlines.{no_elements}
use Rattle.hprof_layouts.specs.WaitingLists.{waiting_for}
use Rattle.hprof_graph.specs.declared.derived.Derived.{Derived}
use Rattle.hprof_graph.proofs.WakingInstances.{LaysRest, laid_all, laid_next, laid_or_waited, taken_out}
use Rattle.hprof_graph.proofs.derived.Derived.wake.Goals as goal

pub returns-in_default-clause-lays : goal.returns-in_default-clause-lays
returns-in_default-clause-lays c = λ before layout is.
    let ids = size_of c.args.heap.now in
    let facts = facts_of c.args.heap.now in
    let derived = c.args.self.now in
    let class = c.args.class in
    let new : Derived = record derived { waiting = c.take.new.self } in
    let given : [] ≡ waiting_for derived.waiting class = sym c.in_default.ensures.none in
    laid_all ids facts new before class [] (taken_out ids facts derived before class is c.take.new.self c.in_default.ensures.taken [] given)
    (λ instance is_of. laid_or_waited ids facts derived before class is [] given instance is_of)

pub loop-instance-init : goal.loop-instance-init
loop-instance-init c = record {
  keeps = refl;
  hand = λ before layout is.
      let ids = size_of c.args.heap.now in
      let facts = facts_of c.args.heap.now in
      let derived = c.args.self.now in
      let class = c.args.class in
      let list = waiting_for derived.waiting class in
      let given : list ≡ into_iter_items c.into_iter-instance-iterator.result =
      sym c.in-Some.ensures.some ∙ sym c.into_iter-instance-iterator.ensures.into_iter_gives.0 in
      subst (LaysRest ids facts (record derived { waiting = c.take.new.self }) before class list) given
      (taken_out ids facts derived before class is c.take.new.self c.in-Some.ensures.taken list refl);
}

pub loop-instance-preserved : goal.loop-instance-preserved
loop-instance-preserved c = record {
  keeps = c.in_ok-lay_waiting.ensures.keeps ∙ c.loop-instance.invariant.keeps;
  hand = λ before layout is.
      let ids = size_of c.args.heap.now in
      let facts = facts_of c.args.heap.now in
      let class = c.args.class in
      let list = waiting_for c.args.self.now.waiting class in
      let instance = c.in-Some-instance.instance in
      let later = into_iter_items c.next.new.self in
      let at = subst (LaysRest ids facts c.loop-instance.self before class list) c.in-Some-instance.ensures.steps.0
      (c.loop-instance.invariant.hand before layout is) in
      let first = at.rest_are instance (0, omega arith, refl) in
      laid_next ids facts c.loop-instance.self before class c.lay_waiting.new.self list instance later at
      (c.in_ok-lay_waiting.ensures.lays at.laid (before ++ list) class first.0 layout first.1 at.deriving_is);
}

pub returns-clause-lays : goal.returns-clause-lays
returns-clause-lays c = λ before layout is.
    let ids = size_of c.args.heap.now in
    let facts = facts_of c.args.heap.now in
    let class = c.args.class in
    let list = waiting_for c.args.self.now.waiting class in
    let len = c.loop-instance.instance-iterator.rest.ok.0 in
    let ended = c.in-None.ensures.steps.0 in
    let none : into_iter_items c.loop-instance.instance-iterator ≡ [] =
    no_elements (into_iter_items c.loop-instance.instance-iterator) (omega arith) in
    laid_all ids facts c.loop-instance.self before class list
    (subst (LaysRest ids facts c.loop-instance.self before class list) none (c.loop-instance.invariant.hand before layout is))
    (λ instance is_of. laid_or_waited ids facts c.args.self.now before class is list refl instance is_of)
