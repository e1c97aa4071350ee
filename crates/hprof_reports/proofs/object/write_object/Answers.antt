use Rattle.std.proofs.Common.{refl}
use Rattle.std.specs.Option.{option_map}
use Rattle.hprof_heap.specs.HeapFacts.{facts_of, size_of}
use Rattle.hprof_heap.specs.ClassDump.{class_value}
use Rattle.hprof_heap.specs.ObjectDump.{fact_of_object}
use Rattle.hprof_layouts.proofs.FieldAnswers.{fields_exist}
use Rattle.hprof_naming.proofs.Namings.{naming_exists}
use Rattle.hprof_reports.specs.ObjectText.{found_text}
use Rattle.hprof_reports.proofs.ObjectParts.{class_is_found, object_is_found}
use Rattle.hprof_reports.proofs.object.write_object.Goals as goal

pub returns-clause-bytes : goal.returns-clause-bytes
returns-clause-bytes g c =
    let ids = size_of c.args.heap.now in
    let facts = facts_of c.args.heap.now in
    let id = c.args.id in
    let naming = naming_exists facts in
    let shown = fields_exist ids facts id in
    let class = c.find_class-class in
    let object = c.find_object-object in (
      found_text naming.0 ids id shown.0 (option_map class_value class.result) (option_map fact_of_object object.result),
      record {
        agree = c.holds_of_heap.ensures.agree;
        naming = naming.0;
        is_naming = naming.1;
        class = option_map class_value class.result;
        class_found = class_is_found facts id class.result class.ensures.found class.ensures.id class.ensures.none;
        object = option_map fact_of_object object.result;
        object_found = object_is_found facts id object.result object.ensures.found object.ensures.id object.ensures.none;
        fields = shown.0;
        are_fields = shown.1;
        is = refl;
      },
      c.write_found.ensures.bytes naming.0 shown.0 naming.1 shown.1,
    )
