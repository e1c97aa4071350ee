use Rattle.hprof_values.specs.Lists.{identifiers_of}
use Rattle.hprof_heap.specs.HeapFacts.{facts_of, size_of}
use Rattle.hprof_layouts.proofs.FieldAnswers.{dump_of_instance, dump_of_objects, dump_of_numbers, fields_of_instance}
use Rattle.hprof_layouts.proofs.object_fields.fields.Goals as goal

pub returns-in-Some-Instance : goal.returns-in-Some-Instance
returns-in-Some-Instance c =
    let a = c.in-Some-Instance in
    let found = rw a.field-0-is at a.ensures.found in
    let id = rw a.field-0-is at a.ensures.id in
    fields_of_instance (size_of c.args.heap.now) (facts_of c.args.heap.now) c.args.object a.class a.bytes.now c.instance_fields.result
    (dump_of_instance (facts_of c.args.heap.now) c.args.object a.field-0-0 a.field-0-1 a.class a.bytes.now found id)
    c.instance_fields.ensures

pub returns-in-Some-ObjArray : goal.returns-in-Some-ObjArray
returns-in-Some-ObjArray c =
    let a = c.in-Some-ObjArray in
    let found = rw a.field-0-is at a.ensures.found in
    let id = rw a.field-0-is at a.ensures.id in
    dump_of_objects (facts_of c.args.heap.now) c.args.object a.field-0-0 a.field-0-1 a.field-0-2 (identifiers_of a.field-0-3) found id

pub returns-in-Some-PrimArray : goal.returns-in-Some-PrimArray
returns-in-Some-PrimArray c =
    let a = c.in-Some-PrimArray in
    let found = rw a.field-0-is at a.ensures.found in
    let id = rw a.field-0-is at a.ensures.id in
    dump_of_numbers (facts_of c.args.heap.now) c.args.object a.field-0-0 a.field-0-1 a.field-0-2 a.field-0-3.now found id
