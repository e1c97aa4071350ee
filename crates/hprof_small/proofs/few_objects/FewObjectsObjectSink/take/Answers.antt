use Rattle.std.proofs.Common.{subst}
use Rattle.hprof_tables.specs.declared.relation.Stated.{Stated}
use Rattle.hprof_items.specs.FactValue.{value_of}
use Rattle.hprof_rows.specs.Stating.{StatesInto}
use Rattle.hprof_heap.specs.Heap.{heap_of}
use Rattle.hprof_small.proofs.Taking.{takes_new, takes_same}
use Rattle.hprof_small.proofs.few_objects.FewObjectsObjectSink.take.Goals as goal

pub returns-in-New : goal.returns-in-New
returns-in-New c =
    let old = heap_of c.args.self.now.heap in
    let new = heap_of c.state.new.self in
    let fact = value_of c.args.object.now in
    record {
      takes = λ size. takes_new old new fact
          (subst (λ (stated : Stated). StatesInto old fact stated new) c.in-New.is c.in_ok-state.ensures.ok);
      refuses = tt;
    }

pub returns-in-Same : goal.returns-in-Same
returns-in-Same c =
    let old = heap_of c.args.self.now.heap in
    let new = heap_of c.state.new.self in
    let fact = value_of c.args.object.now in
    record {
      takes = λ size. takes_same old new fact c.args.self.now.heap.sound.heap
          (subst (λ (stated : Stated). StatesInto old fact stated new) c.in-Same.is c.in_ok-state.ensures.ok);
      refuses = tt;
    }
