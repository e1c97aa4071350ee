use Rattle.std.specs.Prelude.{◌↔◌, Contains}
use Rattle.std.proofs.Common.{◌≡◌, Bool, true, Some, sym, subst, rules}
use Rattle.hprof_heap.specs.declared.object_dump.ObjectDump.{ObjectDump}
use Rattle.hprof_heap.specs.HeapFacts.{facts_of, size_of}
use Rattle.hprof_heap.specs.ObjectDump.{AnswersObject}
use Rattle.hprof_edges.specs.declared.edge.Via.TheVariants as vias
use Rattle.hprof_edges.specs.LeftOut.{fields_in}
use Rattle.hprof_holders.proofs.LeftOutSteps.{by_place, of_instance}
use Rattle.hprof_holders.proofs.steps.is_left_out.Goals as goal

pub returns-in-Some-Instance : goal.returns-in-Some-Instance
returns-in-Some-Instance c =
    let ids = size_of c.args.heap.now in
    let facts = facts_of c.args.heap.now in
    let table = fields_in c.args.left_out.now in
    let edge = c.args.edge in
    let a = c.in-Some-Instance in
    let via : edge.via ≡ vias.Field = search rules in
    let found = subst (λ (dump : ObjectDump). AnswersObject ids facts edge.from (Some dump)) a.field-0-is
    (record { found = a.ensures.found; id = a.ensures.id; lists = a.ensures.lists; only = a.ensures.only; none = tt }) in
    let there = by_place a.class edge.position table c.of.result.now c.of.ensures.exact in
    of_instance ids facts table edge a.field-0-0 a.field-0-1 a.class a.field-0-3 found via c.has_place.result
    (subst (λ (b : Bool). (b ≡ true) ↔ Contains table (record { class = a.class; place = edge.position })) (sym c.has_place.ensures) there)
