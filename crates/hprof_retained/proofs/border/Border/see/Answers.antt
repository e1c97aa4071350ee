use Rattle.std.proofs.Common.{◌∙◌, inl, inr, refl, sym}
use Rattle.hprof_edges.specs.LeftOut.{fields_in}
use Rattle.hprof_heap.specs.ObjectDump.{fact_of_object}
use Rattle.hprof_reach.proofs.TableNodes.{one_more, same_given}
use Rattle.hprof_retained.specs.Border.{IsOnBorder, IsOutside}
use Rattle.hprof_retained.proofs.BorderLists.{border_one, none_more, not_border, not_outside, outside_one}
use Rattle.hprof_retained.proofs.border.Border.see.Goals as goal

pub returns-then-place-eq0-clause-others : goal.returns-then-place-eq0-clause-others
returns-then-place-eq0-clause-others c =
    same_given _ _ c.args.self.now.others.items c.push_node.new.nodes.items
    (outside_one c.args.retained.now c.id_of-id.result (fact_of_object c.args.dump.now) c.id_of-id.ensures
    (sym c.place.ensures ∙ c.if-place-eq0.true)) c.in_ok-push_node.ensures

pub returns-then-place-eq0-clause-sources : goal.returns-then-place-eq0-clause-sources
returns-then-place-eq0-clause-sources c =
    let retained = c.args.retained.now in
    let fields = fields_in c.args.self.now.weak.now in
    let fact = fact_of_object c.args.dump.now in
    none_more c.args.self.now.sources.items c.args.self.now.sources.items (IsOnBorder fields retained fact) refl
    (not_border retained fields c.id_of-id.result fact c.id_of-id.ensures (inl (sym c.place.ensures ∙ c.if-place-eq0.true)))

pub returns-then-not-is_of_weak-clause-others : goal.returns-then-not-is_of_weak-clause-others
returns-then-not-is_of_weak-clause-others c =
    let retained = c.args.retained.now in
    let fact = fact_of_object c.args.dump.now in
    none_more c.args.self.now.others.items c.is_of_weak.new.self.others.items (IsOutside retained fact)
    (λ i. (c.is_of_weak.ensures.others i).items)
    (not_outside retained c.id_of-id.result fact c.id_of-id.ensures (λ at. c.if-place-eq0.false (c.place.ensures ∙ at)))

pub returns-then-not-is_of_weak-clause-sources : goal.returns-then-not-is_of_weak-clause-sources
returns-then-not-is_of_weak-clause-sources c =
    let retained = c.args.retained.now in
    let fields = fields_in c.args.self.now.weak.now in
    let fact = fact_of_object c.args.dump.now in
    none_more c.args.self.now.sources.items c.is_of_weak.new.self.sources.items (IsOnBorder fields retained fact)
    (λ i. (c.is_of_weak.ensures.sources i).items)
    (not_border retained fields c.id_of-id.result fact c.id_of-id.ensures
    (inr (λ of. let passes = c.if-not-is_of_weak.ensures.is.1 of in cc)))

pub returns-clause-others : goal.returns-clause-others
returns-clause-others c =
    let retained = c.args.retained.now in
    let fact = fact_of_object c.args.dump.now in
    none_more c.args.self.now.others.items c.is_of_weak.new.self.others.items (IsOutside retained fact)
    (λ i. (c.is_of_weak.ensures.others i).items)
    (not_outside retained c.id_of-id.result fact c.id_of-id.ensures (λ at. c.if-place-eq0.false (c.place.ensures ∙ at)))

pub returns-clause-sources : goal.returns-clause-sources
returns-clause-sources c =
    let retained = c.args.retained.now in
    let fields = fields_in c.args.self.now.weak.now in
    let fact = fact_of_object c.args.dump.now in
    rw (← c.is_of_weak.ensures.sources)
    (one_more c.is_of_weak.new.self.sources.items c.push.new.self.items c.id_of-id.result (IsOnBorder fields retained fact)
    c.in_ok-push.ensures.items
    (border_one retained fields c.id_of-id.result fact c.id_of-id.ensures (λ at. c.if-place-eq0.false (c.place.ensures ∙ at))
    (c.if-not-is_of_weak.ensures.is.0 refl)))
