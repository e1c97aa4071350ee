use Rattle.std.proofs.Common.{ℕ, List, [], refl, subst}
use Rattle.hprof_rows.specs.declared.table.Table.TheVariants as tables
use Rattle.hprof_rows.specs.Tables.{number_of_table, stands_in}
use Rattle.hprof_rows.proofs.Order.{order_agrees}
use Rattle.hprof_rows.proofs.Picking.{picked_is}
use Rattle.hprof_heap.specs.HeapFacts.{facts_of, size_of}
use Rattle.hprof_passes.specs.Passing.{TakesObjects, objects_among}
use Rattle.hprof_passes.specs.Picked.{is_wanted, picked}
use Rattle.hprof_reach.proofs.SeenObjects.{objects_ascend}
use Rattle.hprof_retained.specs.WeaklyTaken.{TakesWeakly}
use Rattle.hprof_retained.proofs.WeaklyFound.{weakly_found}
use Rattle.hprof_retained.proofs.WeaklyPassed.{all_gathered, ascending_passed, none_gathered}
use Rattle.hprof_retained.proofs.weakly_over.weakly_held_over.Goals as goal

pub returns-in-Ok-pick : goal.returns-in-Ok-pick
returns-in-Ok-pick g c = record {
  held = (
    c.in-Ok-pick.ensures.agree,
    λ all make.
        let ids = size_of c.args.heap.now in
        let whole = g.met.O.Objects.whole c.args.objects.now ids (facts_of c.args.heap.now) all make in
        let nodes = c.in-Ok.nodes.items in
        let objects = objects_among all in
        let sink = c.new-sink.result in
        let last = c.pick.new.sink in
        let took : TakesObjects (λ one size object other. TakesWeakly size object one other) ids sink (picked nodes objects) last =
        subst (λ (l : List ℕ). TakesObjects (λ one size object other. TakesWeakly size object one other) ids sink (picked l objects) last)
        c.deref.ensures.value (c.in-Ok-pick.ensures.given all make) in
        let gathered = all_gathered ids all [] (picked nodes objects) 0 sink last took
        (ascending_passed (is_wanted nodes) 0 objects (objects_ascend all whole.ordered))
        (λ object has. (picked_is (stands_in (number_of_table tables.Objects)) all object
        (picked_is (is_wanted nodes) objects object has).has).has)
        (none_gathered ids all sink.nodes.items sink.bytes c.new-sink.ensures.nodes c.new-sink.ensures.bytes) in
        weakly_found ids all (order_agrees all whole.ordered) nodes last.nodes.items last.bytes gathered.0
        (c.in-Ok.ensures.held.1 all make) c.in-Ok.ensures.ascend gathered.1 _ refl refl,
  );
}
