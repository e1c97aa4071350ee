use Rattle.hprof_heap.specs.HeapFacts.{facts_of, size_of}
use Rattle.hprof_naming.proofs.Found.{of_array_there, of_no_array, of_zero, string_text_is}
use Rattle.hprof_naming.proofs.object_text.string_text.Goals as goal
use Rattle.hprof_naming.proofs.object_text.string_text.Goals.{in_default-via-in-Some+else-target-ne0, in_default-via-in_default}

pub returns-in-Some : goal.returns-in-Some
returns-in-Some c =
    string_text_is (size_of c.args.heap.now) (facts_of c.args.heap.now) c.args.values.now c.first_named-value.result
    c.first_named-coder.result
    c.target_of_field-target.result c.find_object.result _ c.first_named-value.ensures c.first_named-coder.ensures
    c.target_of_field-target.ensures c.find_object.ensures
    (of_array_there c.target_of_field-target.result c.first_named-coder.result c.find_object.result c.in-Some.array c.is_wide_coder.result _
    c.if-target-ne0.true c.in-Some.is c.is_wide_coder.ensures c.array_text.ensures)

pub returns-in_default : goal.returns-in_default
returns-in_default c =
    string_text_is (size_of c.args.heap.now) (facts_of c.args.heap.now) c.args.values.now c.first_named-value.result
    c.first_named-coder.result
    c.target_of_field-target.result c.find_object.result _ c.first_named-value.ensures c.first_named-coder.ensures
    c.target_of_field-target.ensures c.find_object.ensures
    (elim c.in_default.branch [
      | in_default-via-in-Some+else-target-ne0 w ↦
          of_zero c.target_of_field-target.result c.first_named-coder.result c.find_object.result w.if-target-ne0.false
      | in_default-via-in_default w ↦
          of_no_array c.target_of_field-target.result c.first_named-coder.result c.find_object.result w.in_default.is
    ])
