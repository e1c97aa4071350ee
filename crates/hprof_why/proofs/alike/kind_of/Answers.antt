use Rattle.std.proofs.Common.{Some, None, refl, ◌∙◌}
use Rattle.hprof_heap.specs.HeapFacts.{facts_of, size_of}
use Rattle.hprof_why.proofs.KindParts.{kind_told}
use Rattle.hprof_why.proofs.alike.kind_of.Goals as goal

pub returns-in-Some-default : goal.returns-in-Some-default
returns-in-Some-default c = λ found are.
    kind_told (size_of c.args.heap.now) (facts_of c.args.heap.now) c.holds_of_heap.ensures.agree found are c.args.node
    (Some c.in-Some-default.field-0-0) c.find_class.result c.find_object.result c.find_object.result c.find_class.ensures
    c.find_object.ensures c.in-Some-default.is-0 refl

pub returns-in-None-Some : goal.returns-in-None-Some
returns-in-None-Some c = λ found are.
    c.kind_of_object.ensures found.naming
    ∙ kind_told (size_of c.args.heap.now) (facts_of c.args.heap.now) c.holds_of_heap.ensures.agree found are c.args.node
    None c.find_class.result (Some c.in-None-Some.dump) c.find_object.result c.find_class.ensures
    c.find_object.ensures c.in-None-Some.is-0 c.in-None-Some.is-1

pub returns-in-None-None : goal.returns-in-None-None
returns-in-None-None c = λ found are.
    kind_told (size_of c.args.heap.now) (facts_of c.args.heap.now) c.holds_of_heap.ensures.agree found are c.args.node
    None c.find_class.result None c.find_object.result c.find_class.ensures
    c.find_object.ensures c.in-None-None.is-0 c.in-None-None.is-1
