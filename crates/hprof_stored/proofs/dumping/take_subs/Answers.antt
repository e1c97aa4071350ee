use Rattle.std.proofs.Common.{◌≡◌, ℕ, List, [], ◌∷◌, ◌++◌, Result, map, sym, subst, ap, ◌∙◌, append_assoc}
use Rattle.hprof_values.specs.declared.ids.IdSize.{IdSize}
use Rattle.hprof_items.specs.FactValue.{FactValue}
use Rattle.hprof_items.specs.SubRecord.{dump_bytes}
use Rattle.hprof_rows.specs.SubFacts.{sub_facts}
use Rattle.hprof_rows.specs.SubRow.{sub_fact}
use Rattle.hprof_rows.specs.SubRows.{subs_left}
use Rattle.hprof_heap.specs.Heap.{heap_of}
use Rattle.hprof_segments.specs.ByteSegments.{segment_records}
use Rattle.hprof_segments.specs.Taking.{HasTaken}
use Rattle.hprof_segments.specs.Writer.{held_bytes}
use Rattle.hprof_segments.proofs.Takes.{taken_none}
use Rattle.hprof_segments.specs.declared.segment_fault.SegmentFault.{SegmentFault}
use Rattle.hprof_objects.specs.declared.object_fault.ObjectFault.{ObjectFault}
use Rattle.hprof_stored.specs.Dumping.{TakesSubs, WritesSome, subs_of}
use Rattle.hprof_stored.proofs.Subs.{at_error, front_of_all, one_behind}
use Rattle.hprof_stored.proofs.dumping.take_subs.Goals as goal

pub loop-row-init : goal.loop-row-init
loop-row-init g c =
    let written = g.W.Target.written c.args.target.now in
    record {
      done = [];
      split = sym c.sub_rows-rows.ensures.all;
      taken = subst (λ (held : List ℕ). HasTaken written written held []) (sym c.requires.empty) (taken_none written);
      has_ids = c.sub_rows-rows.ensures.ids;
      well = c.requires.target;
      sound = c.new-buffer.ensures;
    }

pub returns-in_err-take_sub-clause-taken : goal.returns-in_err-take_sub-clause-taken
returns-in_err-take_sub-clause-taken g c =
    let heap = heap_of c.args.heap.now in
    let ids = heap.ids in
    let loop = c.loop-row in
    let row = c.in-Some.row in
    let rest = subs_left c.next.new.self in
    let start = g.W.Target.written c.args.target.now in
    let new = g.W.Target.written c.take_sub.new.target in
    let done = loop.invariant.done in
    let next = subst (λ (i : IdSize). subs_left loop.rows ≡ sub_fact i row ∷ rest) loop.invariant.has_ids c.in-Some.ensures.first in
    at_error (λ (r : Result (Unit {0}) (ObjectFault SegmentFault)). TakesSubs start new (held_bytes c.take_sub.new.writer) (subs_of heap) r)
    c.from_residual.result c.in_err-take_sub.field-0.0
    (front_of_all (dump_bytes ids) start new done (sub_fact ids row) rest (sub_facts heap.facts)
    (loop.invariant.split ∙ ap (λ (l : List FactValue). done ++ l) next)
    (subst (λ (i : IdSize). (more : List (List ℕ))
    → WritesSome start new (segment_records ((map (dump_bytes ids) done ++ dump_bytes i (sub_fact i row) ∷ []) ++ more)))
    (c.ids-ids.ensures ∙ c.sub_rows-rows.ensures.ids)
    (c.in_err-take_sub.ensures.taken start (map (dump_bytes ids) done) loop.invariant.taken)))
    c.from_residual.ensures.1

pub loop-row-preserved : goal.loop-row-preserved
loop-row-preserved g c =
    let heap = heap_of c.args.heap.now in
    let ids = heap.ids in
    let loop = c.loop-row in
    let row = c.in-Some.row in
    let rest = subs_left c.next.new.self in
    let start = g.W.Target.written c.args.target.now in
    let new = g.W.Target.written c.take_sub.new.target in
    let held = held_bytes c.take_sub.new.writer in
    let done = loop.invariant.done in
    let next = subst (λ (i : IdSize). subs_left loop.rows ≡ sub_fact i row ∷ rest) loop.invariant.has_ids c.in-Some.ensures.first in
    record {
      done = done ++ sub_fact ids row ∷ [];
      split =
          loop.invariant.split
          ∙ ap (λ (l : List FactValue). done ++ l) next
          ∙ sym (append_assoc done (sub_fact ids row ∷ []) rest);
      taken =
          subst (HasTaken start new held) (one_behind (dump_bytes ids) done (sub_fact ids row))
          (subst (λ (i : IdSize). HasTaken start new held (map (dump_bytes ids) done ++ dump_bytes i (sub_fact i row) ∷ []))
          (c.ids-ids.ensures ∙ c.sub_rows-rows.ensures.ids)
          (c.in_ok-take_sub.ensures.taken start (map (dump_bytes ids) done) loop.invariant.taken));
      has_ids = c.next.ensures.has_ids ∙ loop.invariant.has_ids;
      well = c.in_ok-take_sub.ensures.health;
      sound = c.in_ok-take_sub.ensures.buffer;
    }
