use Rattle.std.specs.Prelude.{Contains}
use Rattle.std.specs.Option.{option_map}
use Rattle.std.proofs.Common.{ℕ, List, subst}
use Rattle.hprof_heap.specs.ClassDump.{class_value}
use Rattle.hprof_heap.specs.HeapFacts.{facts_of, size_of}
use Rattle.hprof_heap.specs.ObjectDump.{fact_of_object}
use Rattle.hprof_show.specs.Shown.{found_class_referents, found_object_referents}
use Rattle.hprof_show.proofs.ShownFound.{shown_found}
use Rattle.hprof_show.proofs.PushedIds.{shown_pushed}
use Rattle.hprof_show.proofs.shown.shown_ids.Goals as goal

pub returns-clause-has : goal.returns-clause-has
returns-clause-has c =
    let id = c.args.id in
    let class = c.find_class-class in
    let object = c.find_object-object in
    shown_found (size_of c.args.heap.now) (facts_of c.args.heap.now) id c.holds_of_heap.ensures.agree class.result object.result
    class.ensures object.ensures c.sort_once.new.nodes.items
    (λ fields are shown here. (c.in_ok-sort_once.ensures.same shown).1
    (subst (λ (l : List ℕ). Contains l shown)
    (shown_pushed id (found_class_referents (option_map class_value class.result))
    (found_object_referents fields (option_map fact_of_object object.result)) c.new-ids.result.items c.push.new.self.items
    c.push_found_class.new.ids.items c.push_found_object.new.ids.items c.new-ids.ensures.items c.in_ok-push.ensures.items
    c.in_ok-push_found_class.ensures (c.in_ok-push_found_object.ensures fields are)) here))
