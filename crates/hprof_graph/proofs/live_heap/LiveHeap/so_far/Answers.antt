use Rattle.std.proofs.Common.{None, sym, subst, Result}
use Rattle.hprof_rows.specs.HeapValue.{HeapValue}
use Rattle.hprof_heap.specs.declared.standing.Refusal.{Refusal}
use Rattle.hprof_graph.specs.declared.live.Live.TheVariants as lives
use Rattle.hprof_graph.specs.LiveHeap.{LendsHeap}
use Rattle.hprof_graph.proofs.Outcomes.{clean_lends, conflict_lends, failed_lends, failed_outcome, nothing_lends, sound_outcome}
use Rattle.hprof_graph.proofs.live_heap.LiveHeap.so_far.Goals as goal

pub returns-then-self : goal.returns-then-self
returns-then-self c =
    subst (λ (o : Result HeapValue Refusal). LendsHeap o lives.Failed) (sym (failed_outcome c.args.self.now c.if-self.true)) tt

pub returns-in-Failed : goal.returns-in-Failed
returns-in-Failed c =
    subst (λ (o : Result HeapValue Refusal). LendsHeap o lives.Failed) (sym (sound_outcome c.args.self.now c.if-self.false))
    (failed_lends _ c.in-Failed.ensures)

pub returns-in-InConflict : goal.returns-in-InConflict
returns-in-InConflict c =
    subst (λ (o : Result HeapValue Refusal). LendsHeap o lives.InConflict) (sym (sound_outcome c.args.self.now c.if-self.false))
    (conflict_lends _ c.in-InConflict.ensures)

pub returns-in-Empty : goal.returns-in-Empty
returns-in-Empty c =
    subst (λ (o : Result HeapValue Refusal). LendsHeap o (lives.Is None)) (sym (sound_outcome c.args.self.now c.if-self.false))
    (nothing_lends _ c.in-Empty.ensures)

pub returns-in-Clean : goal.returns-in-Clean
returns-in-Clean c =
    subst (λ (o : Result HeapValue Refusal). LendsHeap o (lives.Is c.heap.result)) (sym (sound_outcome c.args.self.now c.if-self.false))
    (clean_lends _ c.heap.result c.in-Clean.ensures c.heap.ensures)
