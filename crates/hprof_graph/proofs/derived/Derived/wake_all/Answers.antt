use Rattle.std.proofs.Common.{◌≡◌, ◌+◌, ◌∷◌, ◌++◌, [], take, take_all, get_or, refl, sym, subst, ◌∙◌}
use Rattle.std.proofs.lemmas.List.{take_more}
use Rattle.std.proofs.lemmas.List.Elements.{Contains-get_or}
use Rattle.hprof_heap.specs.HeapFacts.{facts_of, size_of}
use Rattle.hprof_graph.specs.Derived.{HasLaid}
use Rattle.hprof_graph.proofs.WakingInstances.{none_woken, one_woken}
use Rattle.hprof_graph.proofs.derived.Derived.wake_all.Goals as goal

pub loop-class-init : goal.loop-class-init
loop-class-init c = record {
  keeps = refl;
  lays = λ before layouts is. none_woken (size_of c.args.heap.now) (facts_of c.args.heap.now) c.args.self.now before is;
}

pub loop-class-preserved : goal.loop-class-preserved
loop-class-preserved c = record {
  keeps = c.in_ok-wake.ensures.keeps ∙ c.loop-class.invariant.keeps;
  lays = λ before layouts is.
      let ids = size_of c.args.heap.now in
      let facts = facts_of c.args.heap.now in
      let woken = c.args.woken.now in
      let place = c.loop-class.class-index in
      let below = c.loop-class-test.true in
      let class = get_or woken place 0 in
      let has = c.loop-class.invariant.lays before layouts is in
      let more = c.in_ok-wake.ensures.lays has.laid (layouts class (Contains-get_or woken place 0 below)) has.deriving_is in
      let longer : take (place + 1) woken ≡ take place woken ++ class ∷ [] = take_more woken place 0 below in
      subst (HasLaid ids facts c.wake.new.self before) (sym longer)
      (one_woken ids facts c.loop-class.self c.wake.new.self before (take place woken) class has more);
}

pub returns-clause-lays : goal.returns-clause-lays
returns-clause-lays c = λ before layouts is.
    let over = c.loop-class-test.false in
    subst (HasLaid (size_of c.args.heap.now) (facts_of c.args.heap.now) c.loop-class.self before)
    (take_all c.loop-class.class-index c.args.woken.now over) (c.loop-class.invariant.lays before layouts is)
