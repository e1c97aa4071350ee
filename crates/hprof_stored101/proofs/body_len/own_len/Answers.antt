use Rattle.std.proofs.Common.{◌≡◌, ℕ, List, [], ◌∷◌, ◌++◌, length, refl, sym, ap, subst, ◌∙◌, append_assoc}
use Rattle.hprof_values.specs.declared.ids.IdSize.{IdSize}
use Rattle.hprof_items.specs.FactValue.{FactValue}
use Rattle.hprof_items.specs.SubRecord.{dump_bytes}
use Rattle.hprof_rows.specs.SubFacts.{sub_facts}
use Rattle.hprof_rows.specs.SubRow.{sub_fact}
use Rattle.hprof_rows.specs.SubRows.{subs_left}
use Rattle.hprof_heap.specs.Heap.{heap_of}
use Rattle.hprof_stored101.specs.ByteCounter.{capped}
use Rattle.hprof_stored101.proofs.Pieces.{none_left, one_counted}
use Rattle.hprof_stored101.proofs.body_len.own_len.Goals as goal

pub loop-row-init : goal.loop-row-init
loop-row-init c = record {
  done = [];
  split = sym c.sub_rows-rows.ensures.all;
  counted = refl;
  has_ids = c.sub_rows-rows.ensures.ids;
}

pub loop-row-preserved : goal.loop-row-preserved
loop-row-preserved c =
    let heap = heap_of c.args.heap.now in
    let ids = heap.ids in
    let loop = c.loop-row in
    let row = c.in-Some.row in
    let rest = subs_left c.next.new.self in
    let done = loop.invariant.done in
    let next = subst (λ (i : IdSize). subs_left loop.rows ≡ sub_fact i row ∷ rest) loop.invariant.has_ids c.in-Some.ensures.first in
    let size = subst (λ (i : IdSize). c.len.result ≡ length (dump_bytes i (sub_fact i row)))
    (c.ids-ids.ensures ∙ c.sub_rows-rows.ensures.ids) c.len.ensures.value in
    record {
      done = done ++ sub_fact ids row ∷ [];
      split =
          loop.invariant.split
          ∙ ap (λ (l : List FactValue). done ++ l) next
          ∙ sym (append_assoc done (sub_fact ids row ∷ []) rest);
      counted =
          one_counted (dump_bytes ids) done (sub_fact ids row) loop.len c.len.result c.saturating_add-len.result loop.invariant.counted size
          c.saturating_add-len.ensures;
      has_ids = c.next.ensures.has_ids ∙ loop.invariant.has_ids;
    }

pub returns : goal.returns
returns c =
    let heap = heap_of c.args.heap.now in
    let loop = c.loop-row in
    loop.invariant.counted
    ∙ ap (λ (l : List ℕ). capped (length l))
    (none_left (dump_bytes heap.ids) loop.invariant.done (subs_left loop.rows) (sub_facts heap.facts) loop.invariant.split
    c.in_default.ensures.first.0)
