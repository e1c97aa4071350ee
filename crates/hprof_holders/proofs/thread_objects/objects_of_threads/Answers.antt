use Rattle.std.specs.Prelude.{Contains}
use Rattle.std.proofs.Common.{ℕ, List, get_or, below_more, sym, subst, arith, ◌∙◌}
use Rattle.std.proofs.lemmas.List.{get_or_default}
use Rattle.std.proofs.lemmas.List.Elements.{Contains-append_left}
use Rattle.hprof_heap.specs.HeapFacts.{facts_of}
use Rattle.hprof_holders.specs.ThreadObjects.{HasThreadObjects}
use Rattle.hprof_holders.proofs.PushedThreads.{thread_of_more}
use Rattle.hprof_holders.proofs.thread_objects.objects_of_threads.Goals as goal

pub loop-serial-preserved : goal.loop-serial-preserved
loop-serial-preserved c =
    let facts = facts_of c.args.heap.now in
    let serials = c.deref-serial-items.result.now in
    let old = c.loop-serial.nodes.items in
    let new = c.push_thread.new.nodes.items in
    let grows = c.in_ok-push_thread.ensures.grows in
    below_more (λ k. HasThreadObjects facts new (get_or serials k 0)) c.loop-serial.serial-index
    (λ k before. thread_of_more facts old new
    (λ node has. subst (λ (l : List ℕ). Contains l node) (sym grows.1) (Contains-append_left old grows.0 node has))
    (get_or serials k 0) (c.loop-serial.invariant k before)) c.in_ok-push_thread.ensures.has

pub returns-clause-has : goal.returns-clause-has
returns-clause-has c = λ serial thread.
    let facts = facts_of c.args.heap.now in
    let serials = c.deref-serial-items.result.now in
    let sorted = c.sort_once.new.nodes.items in
    let has = subst (λ (l : List ℕ). Contains l serial) (sym c.deref-serial-items.ensures.value)
    ((c.in_ok-serials.ensures.exact serial).1 thread) in
    subst (HasThreadObjects facts sorted) (get_or_default serials has.0 0 serial has.1 ∙ has.2)
    (thread_of_more facts c.loop-serial.nodes.items sorted (λ node there. (c.in_ok-sort_once.ensures.same node).1 there)
    (get_or serials has.0 0) (c.loop-serial.invariant has.0 (omega arith)))
