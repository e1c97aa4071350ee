use Rattle.std.proofs.Common.{sym, subst, List, ℕ, Contains}
use Rattle.hprof_values.specs.declared.ids.IdSize.{IdSize}
use Rattle.hprof_heap.specs.HeapFacts.{facts_of, size_of}
use Rattle.hprof_heap.specs.ClassDump.{class_value}
use Rattle.hprof_layouts.specs.Known.{Knows}
use Rattle.hprof_graph.specs.Derived.{HasLaid}
use Rattle.hprof_graph.proofs.FactsMore.{class_added, class_came, class_new, dumps_more}
use Rattle.hprof_graph.proofs.derived.Derived.add_class.Goals as goal

pub returns-clause-adds : goal.returns-clause-adds
returns-clause-adds c = λ before adds is.
    let ids = size_of c.args.heap.now in
    let facts = facts_of c.args.heap.now in
    let dump = class_value c.args.dump.now in
    let derived = c.args.self.now in
    let size = c.id_size.ensures.value in
    let knew = subst (λ (i : IdSize). Knows i before derived.known) (sym size) is.deriving_is.knows in
    let new = class_new ids before facts dump adds in
    let more = dumps_more ids before facts dump adds in
    let knows = subst (λ (i : IdSize). Knows i facts c.add_class.new.self) size (c.in_ok-woken.ensures.ok before facts knew new more) in
    let woken = c.in_ok-woken.ensures.woken before facts knew new more in
    let came = class_came ids before facts dump adds derived is c.class_edges.new.into
    (λ edges of. c.in_ok-class_edges.ensures.holds edges of) c.add_class.new.self knows in
    let laid = c.in_ok-wake_all.ensures.lays is.laid
    (λ class there. ((woken.each class).0 (subst (λ (l : List ℕ). Contains l class) c.deref.ensures.value there)).0) came in
    class_added ids before facts dump adds derived is c.wake_all.new.self c.in_ok-woken.woken.items woken
    (subst (HasLaid ids facts c.wake_all.new.self is.laid) c.deref.ensures.value laid)
