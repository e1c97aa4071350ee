use Rattle.std.proofs.Common.{◌≡◌, Bool, true, false, ◌||◌, sym, ap, subst, ◌∙◌}
use Rattle.hprof_heap.specs.Gathering.{Gathered, Gathers, gathered, nothing_gathered}
use Rattle.hprof_heap.proofs.Gathering.{gathered_stands}
use Rattle.hprof_heap.specs.HeapFacts.{facts_of, size_of}
use Rattle.hprof_graph.specs.Derived.{keeps_of}
use Rattle.hprof_graph.specs.LiveHeap.{seen_by}
use Rattle.hprof_graph.proofs.Outcomes.{derived_of_heap, failed_outcome, sound_outcome, sound_seen}
use Rattle.hprof_graph.proofs.KeptReferrers.{index_to}
use Rattle.hprof_graph.proofs.live_heap.LiveHeap.finish.Goals as goal

pub returns-then-failed-clause-answer : goal.returns-then-failed-clause-answer
returns-then-failed-clause-answer c = sym (failed_outcome c.args.self c.if-failed.true)

pub returns-then-failed-clause-told : goal.returns-then-failed-clause-told
returns-then-failed-clause-told c = λ parts gathers.
    let sound = (gathered_stands parts (seen_by c.args.self) gathers).sound in
    let failed : (seen_by c.args.self).failed ≡ true =
    ap (λ (t : Bool). t || (gathered c.args.self.gatherer).failed) c.if-failed.true in
    let clash : true ≡ false = sym failed ∙ sound in
    cc

pub returns-in-Err-clause-answer : goal.returns-in-Err-clause-answer
returns-in-Err-clause-answer c = c.in-Err.ensures.answer ∙ sym (sound_outcome c.args.self c.if-failed.false)

pub returns-in-Ok-clause-answer : goal.returns-in-Ok-clause-answer
returns-in-Ok-clause-answer c = c.in-Ok.ensures.answer ∙ sym (sound_outcome c.args.self c.if-failed.false)

pub returns-in-Ok-clause-told : goal.returns-in-Ok-clause-told
returns-in-Ok-clause-told c = λ parts gathers.
    c.in-Ok.ensures.told parts
    (subst (λ (g : Gathered). Gathers nothing_gathered parts g) (sound_seen c.args.self c.if-failed.false) gathers)

pub returns-in-Ok-clause-kept : goal.returns-in-Ok-clause-kept
returns-in-Ok-clause-kept c = λ current.
    c.into_index.ensures (size_of c.in-Ok.heap) (facts_of c.in-Ok.heap)
    (derived_of_heap c.args.self c.in-Ok.heap (c.in-Ok.ensures.answer ∙ sym (sound_outcome c.args.self c.if-failed.false)) current)

pub returns-in-Ok-clause-listed : goal.returns-in-Ok-clause-listed
returns-in-Ok-clause-listed c = λ id watches.
    index_to (size_of c.in-Ok.heap) (facts_of c.in-Ok.heap) id (keeps_of c.args.self.derived) c.into_index.result
    (c.into_index.ensures (size_of c.in-Ok.heap) (facts_of c.in-Ok.heap)
    (derived_of_heap c.args.self c.in-Ok.heap (c.in-Ok.ensures.answer ∙ sym (sound_outcome c.args.self c.if-failed.false))
    watches.current)) watches.keeps
