use Rattle.hprof_heap.specs.HeapFacts.{facts_of, size_of}
use Rattle.hprof_naming.proofs.Found.{text_of_array, text_of_instance, text_without_object}
use Rattle.hprof_naming.proofs.object_text.text_of.Goals as goal

pub returns-in-Instance : goal.returns-in-Instance
returns-in-Instance c =
    let it = c.in-Instance in
    text_of_instance (size_of c.args.heap.now) (facts_of c.args.heap.now) c.args.id c.find_object.result c.find_object.ensures
    c.in-Some.dump
    c.in-Some.is it.id it.trace it.class it.bytes c.instance_text.result it.is c.instance_text.ensures

pub returns-in_default : goal.returns-in_default
returns-in_default c =
    text_of_array (size_of c.args.heap.now) (facts_of c.args.heap.now) c.args.id c.find_object.result c.find_object.ensures c.in-Some.dump
    c.in-Some.is _ c.in_default.not-Instance c.array_text.ensures

pub returns-in-Some-find_class : goal.returns-in-Some-find_class
returns-in-Some-find_class c =
    text_without_object (size_of c.args.heap.now) (facts_of c.args.heap.now) c.args.id c.find_object.result c.find_object.ensures
    c.find_class.result c.in-Some-find_class.field-0 c.find_class.ensures c.in-Some-find_class.is c.in-None.is
