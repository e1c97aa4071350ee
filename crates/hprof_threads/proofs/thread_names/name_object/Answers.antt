use Rattle.hprof_heap.specs.HeapFacts.{facts_of}
use Rattle.hprof_layouts.specs.Fields.{fields_value}
use Rattle.hprof_threads.proofs.NameAnswers.{no_name_object, no_values}
use Rattle.hprof_threads.proofs.thread_names.name_object.Goals as goal

pub returns-in_default : goal.returns-in_default
returns-in_default c = λ are. (
  fields_value c.in_ok-values.field-0,
  c.in_ok-values.ensures,
  no_name_object (facts_of c.args.heap.now) (fields_value c.in_ok-values.field-0)
      (no_values c.in_ok-values.field-0 c.in_default.not-Values),
)
