use Rattle.std.proofs.Common.{Ok, Err, refl, sym, subst}
use Rattle.hprof_heap.specs.HeapFacts.{facts_of, size_of}
use Rattle.hprof_histogram.specs.declared.chosen.Chosen.TheVariants.{Classes}
use Rattle.hprof_lines.specs.ObjectsText.{objects_text}
use Rattle.hprof_lines.proofs.PassedEnds.{ends_passed}
use Rattle.hprof_meaning.specs.ObjectsOf.{AreObjectsOf}
use Rattle.hprof_meaning.specs.ObjectsOfText.{IsObjectsOfText}
use Rattle.hprof_meaning.proofs.ObjectsInOrder.{chosen_are_objects}
use Rattle.hprof_meaning.proofs.objects.write_objects_of_classes_over.Goals as goal

pub returns-in-Ok-write_object_lines : goal.returns-in-Ok-write_object_lines
returns-in-Ok-write_object_lines g c =
    let ids = size_of c.args.heap.now in
    let facts = facts_of c.args.heap.now in
    let objects = c.args.objects.now in
    let classes = c.args.classes.now in
    let lines = c.deref.result.now in
    ends_passed (g.O.Objects.make_up objects ids facts) (g.O.Objects.agree objects ids facts) (g.O.Objects.tells objects ids facts)
    (λ all. IsObjectsOfText ids all classes) g.W.Target.written g.W.Target.health c.args.target.now c.write_object_lines.new.target
    (Ok c.in-Ok-write_object_lines.field-0) c.in-Ok.ensures.0 (λ all make. (
      objects_text lines,
      record {
        objects = lines;
        are_objects = subst (AreObjectsOf ids all classes) (sym c.deref.ensures.value)
            (chosen_are_objects ids all (Classes c.args.classes) classes (λ kind. refl)
            (g.met.O.Objects.whole objects ids facts all make).ordered c.in-Ok.found.items (c.in-Ok.ensures.1 all make));
        is = refl;
      },
      c.in-Ok-write_object_lines.ensures.bytes,
    )) c.in-Ok-write_object_lines.ensures.health

pub returns : goal.returns
returns g c =
    let ids = size_of c.args.heap.now in
    let facts = facts_of c.args.heap.now in
    let objects = c.args.objects.now in
    let classes = c.args.classes.now in
    let lines = c.deref.result.now in
    ends_passed (g.O.Objects.make_up objects ids facts) (g.O.Objects.agree objects ids facts) (g.O.Objects.tells objects ids facts)
    (λ all. IsObjectsOfText ids all classes) g.W.Target.written g.W.Target.health c.args.target.now c.write_object_lines.new.target
    (Err c.in-Err-write_object_lines.stop) c.in-Ok.ensures.0 (λ all make. (
      objects_text lines,
      record {
        objects = lines;
        are_objects = subst (AreObjectsOf ids all classes) (sym c.deref.ensures.value)
            (chosen_are_objects ids all (Classes c.args.classes) classes (λ kind. refl)
            (g.met.O.Objects.whole objects ids facts all make).ordered c.in-Ok.found.items (c.in-Ok.ensures.1 all make));
        is = refl;
      },
      c.in-Err-write_object_lines.ensures.bytes,
    )) c.in-Err-write_object_lines.ensures.health
