use Rattle.std.specs.Prelude.{Contains}
use Rattle.std.proofs.Common.{ℕ, List, get_or, below_more, sym, subst, arith, ◌∙◌}
use Rattle.std.proofs.lemmas.List.{get_or_default}
use Rattle.std.proofs.lemmas.List.Elements.{Contains-append_left}
use Rattle.hprof_heap.specs.HeapFacts.{facts_of, size_of}
use Rattle.hprof_words.specs.Words.{HasNext}
use Rattle.hprof_words.proofs.Among.{contains_of_among}
use Rattle.hprof_words.proofs.NextParts.{next_of_more}
use Rattle.hprof_words.proofs.needed.needed_for.Goals as goal

pub loop-id-preserved : goal.loop-id-preserved
loop-id-preserved c =
    let ids = size_of c.args.heap.now in
    let facts = facts_of c.args.heap.now in
    let some = c.args.some.now in
    let old = c.loop-id.needed.items in
    let new = c.push_next.new.needed.items in
    let grows = c.in_ok-push_next.ensures.grows in
    below_more (λ k. HasNext ids facts new (get_or some k 0)) c.loop-id.id-index
    (λ k before. next_of_more ids facts (get_or some k 0) old new
    (λ node has. subst (λ (l : List ℕ). Contains l node) (sym grows.1) (Contains-append_left old grows.0 node has))
    (c.loop-id.invariant k before)) c.in_ok-push_next.ensures.has

pub returns-clause-has : goal.returns-clause-has
returns-clause-has c = λ id among.
    let ids = size_of c.args.heap.now in
    let facts = facts_of c.args.heap.now in
    let some = c.args.some.now in
    let sorted = c.sort_once.new.nodes.items in
    let has = contains_of_among some id among in
    subst (HasNext ids facts sorted) (get_or_default some has.0 0 id has.1 ∙ has.2)
    (next_of_more ids facts (get_or some has.0 0) c.loop-id.needed.items sorted
    (λ node there. (c.in_ok-sort_once.ensures.same node).1 there)
    (c.loop-id.invariant has.0 (omega arith)))
