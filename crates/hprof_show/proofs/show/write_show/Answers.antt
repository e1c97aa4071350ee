use Rattle.std.proofs.Common.{Option, ap, ◌∙◌}
use Rattle.std.specs.Option.{option_map}
use Rattle.hprof_items.specs.FactValue.{FactValue}
use Rattle.hprof_heap.specs.Classes.{ClassValue}
use Rattle.hprof_heap.specs.ClassDump.{class_value}
use Rattle.hprof_heap.specs.HeapFacts.{facts_of, size_of}
use Rattle.hprof_heap.specs.ObjectDump.{fact_of_object}
use Rattle.hprof_layouts.proofs.FieldAnswers.{fields_exist}
use Rattle.hprof_describe.proofs.FoundOnce.{class_found, object_found}
use Rattle.hprof_describe.proofs.OneFinding.{findings_exist}
use Rattle.hprof_show.specs.ShowText.{found_text}
use Rattle.hprof_show.proofs.show.write_show.Goals as goal

pub returns-clause-bytes : goal.returns-clause-bytes
returns-clause-bytes g c =
    let ids = size_of c.args.heap.now in
    let facts = facts_of c.args.heap.now in
    let id = c.args.id in
    let agree = c.holds_of_heap.ensures.agree in
    let found = findings_exist ids facts agree in
    let shown = fields_exist ids facts id in
    let class = c.find_class-class in
    let object = c.find_object-object in
    let dump = option_map class_value class.result in
    let fact = option_map fact_of_object object.result in (
      found_text found.0 id shown.0 dump fact,
      record {
        agree = agree;
        found = found.0;
        are_found = found.1;
        fields = shown.0;
        are_fields = shown.1;
        is = ap (λ (d : Option ClassValue). found_text found.0 id shown.0 d fact)
            (class_found ids facts agree found.0 found.1 id class.result class.ensures)
            ∙ ap (λ (f : Option FactValue). found_text found.0 id shown.0 (found.0.class id) f)
            (object_found ids facts agree found.0 found.1 id object.result object.ensures);
      },
      c.write_found.ensures.bytes found.0 shown.0 found.1 shown.1,
    )
