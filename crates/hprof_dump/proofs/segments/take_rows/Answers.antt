use Rattle.std.proofs.Common.{◌≡◌, ℕ, ◌-◌, List, ◌++◌, ◌∷◌, take, subst, ◌∙◌}
use Rattle.std.specs.Io.KnownBytes.{Appends}
use Rattle.std.proofs.lemmas.Result.{err_from_is_err_and}
use Rattle.hprof_values.specs.declared.ids.IdSize.{IdSize}
use Rattle.hprof_items.specs.FactValue.{FactValue}
use Rattle.hprof_items.specs.SubRecord.{dump_bytes}
use Rattle.hprof_devices.proofs.Writes.{WritesFront}
use Rattle.hprof_rows.specs.SubRow.{sub_fact}
use Rattle.hprof_rows.specs.SubRows.{subs_left, subs_ids}
use Rattle.hprof_devices.proofs.OneByOne.{drop_first}
use Rattle.hprof_dump.specs.Batch.{batch_bytes}
use Rattle.hprof_dump.proofs.Batches.{Taken, Taken-more, Taken-stops, take_first, stops}
use Rattle.hprof_dump.proofs.segments.take_rows.Goals as goal

pub returns-in_err-take-clause-bytes : goal.returns-in_err-take-clause-bytes
returns-in_err-take-clause-bytes g c =
    let r = c.from_residual.result in
    let p = err_from_is_err_and r c.from_residual.ensures.1 in
    let loop = c.loop-left in
    let old = g.W.Target.written c.args.target.now in
    let mid = g.W.Target.written loop.target in
    let new = g.W.Target.written c.take.new.target in
    let row = c.in-Some.row in
    let ids = subs_ids c.args.rows.now in
    let all = take c.args.count (subs_left c.args.rows.now) in
    let others = subs_left loop.rows in
    let rest = subs_left c.next.new.self in
    let start = batch_bytes c.args.batch.now in
    let waiting = batch_bytes loop.batch in
    let one : FactValue = sub_fact ids row in
    let first = subst (λ (i : IdSize). others ≡ sub_fact i row ∷ rest) loop.invariant.has_ids c.in-Some.ensures.first in
    let taken = subst (Taken (dump_bytes ids) old mid start waiting all) (take_first loop.left one others rest c.loop-left-test.true first)
    loop.invariant.taken in
    stops old new r p.0 _ _ p.1
    (Taken-stops (dump_bytes ids) old mid new r p.0 start waiting all one (take (loop.left - 1) rest) p.1 taken
    (subst (λ (i : IdSize). WritesFront mid new (waiting ++ dump_bytes i (sub_fact i row))) c.ids-ids.ensures c.in_err-take.ensures.bytes))

pub loop-left-preserved : goal.loop-left-preserved
loop-left-preserved g c =
    let loop = c.loop-left in
    let old = g.W.Target.written c.args.target.now in
    let mid = g.W.Target.written loop.target in
    let new = g.W.Target.written c.take.new.target in
    let row = c.in-Some.row in
    let ids = subs_ids c.args.rows.now in
    let all = take c.args.count (subs_left c.args.rows.now) in
    let others = subs_left loop.rows in
    let rest = subs_left c.next.new.self in
    let start = batch_bytes c.args.batch.now in
    let waiting = batch_bytes loop.batch in
    let then = batch_bytes c.take.new.self in
    let one : FactValue = sub_fact ids row in
    let first = subst (λ (i : IdSize). others ≡ sub_fact i row ∷ rest) loop.invariant.has_ids c.in-Some.ensures.first in
    let taken = subst (Taken (dump_bytes ids) old mid start waiting all) (take_first loop.left one others rest c.loop-left-test.true first)
    loop.invariant.taken in
    let some = subst (λ (i : IdSize). (front : List ℕ) × Appends mid new front × (waiting ++ dump_bytes i (sub_fact i row) ≡ front ++ then))
    c.ids-ids.ensures c.in_ok-take.ensures.bytes in
    record {
      taken = Taken-more (dump_bytes ids) old mid new start waiting then all one (take (loop.left - 1) rest) taken some.0 some.1 some.2;
      behind = loop.invariant.behind ∙ drop_first loop.left one others rest c.loop-left-test.true first;
      has_ids = c.next.ensures.has_ids ∙ loop.invariant.has_ids;
      well = c.in_ok-take.ensures.health;
    }
