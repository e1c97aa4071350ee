use Rattle.std.proofs.Common.{Option, Some, sym, subst}
use Rattle.std.specs.Option.{option_map}
use Rattle.std.proofs.lemmas.Result.{err_from_is_err_and}
use Rattle.hprof_heap.specs.HeapFacts.{size_of}
use Rattle.hprof_heap.specs.declared.class_dump.ClassDump.{ClassDump}
use Rattle.hprof_heap.specs.declared.object_dump.ObjectDump.{ObjectDump}
use Rattle.hprof_heap.specs.ClassDump.{class_value}
use Rattle.hprof_heap.specs.ObjectDump.{fact_of_object}
use Rattle.hprof_reports.specs.ObjectText.{class_text, found_text, object_text}
use Rattle.hprof_lines.specs.Stopping.{WritesText}
use Rattle.hprof_lines.proofs.TextWriting.{text_stops, text_then}
use Rattle.hprof_reports.proofs.object.write_found.Goals as goal

pub returns-in_err-write_class-in-Some-Some-clause-bytes : goal.returns-in_err-write_class-in-Some-Some-clause-bytes
returns-in_err-write_class-in-Some-Some-clause-bytes g c = λ naming shown is are.
    let ids = size_of c.args.heap.now in
    let it = c.in-Some-Some in
    let r = c.from_residual.result in
    let p = err_from_is_err_and r c.from_residual.ensures.1 in
    subst (λ (class : Option ClassDump). WritesText (g.W.Target.written c.args.target.now)
    (g.W.Target.written c.write_class-in-Some-Some.new.target) r
    (found_text naming ids c.args.id shown (option_map class_value class) (option_map fact_of_object c.args.object))) (sym it.is-0)
    (subst (λ (object : Option ObjectDump). WritesText (g.W.Target.written c.args.target.now)
    (g.W.Target.written c.write_class-in-Some-Some.new.target) r
    (found_text naming ids c.args.id shown (Some (class_value it.dump)) (option_map fact_of_object object))) (sym it.is-1)
    (text_stops r (g.W.Target.written c.args.target.now) (g.W.Target.written c.write_class-in-Some-Some.new.target) p.0
    (class_text naming ids (class_value it.dump))
    (object_text naming ids shown (fact_of_object it.object)) p.1 (c.in_err-write_class-in-Some-Some.ensures.bytes naming is)))

pub returns-in_ok-write_class-in-Some-Some-clause-bytes : goal.returns-in_ok-write_class-in-Some-Some-clause-bytes
returns-in_ok-write_class-in-Some-Some-clause-bytes g c = λ naming shown is are.
    let ids = size_of c.args.heap.now in
    let it = c.in-Some-Some in
    let r = c.write_object_dump-in-Some-Some.result in
    subst (λ (class : Option ClassDump). WritesText (g.W.Target.written c.args.target.now)
    (g.W.Target.written c.write_object_dump-in-Some-Some.new.target) r
    (found_text naming ids c.args.id shown (option_map class_value class) (option_map fact_of_object c.args.object))) (sym it.is-0)
    (subst (λ (object : Option ObjectDump). WritesText (g.W.Target.written c.args.target.now)
    (g.W.Target.written c.write_object_dump-in-Some-Some.new.target) r
    (found_text naming ids c.args.id shown (Some (class_value it.dump)) (option_map fact_of_object object))) (sym it.is-1)
    (text_then r (g.W.Target.written c.args.target.now) (g.W.Target.written c.write_class-in-Some-Some.new.target)
    (g.W.Target.written c.write_object_dump-in-Some-Some.new.target) (class_text naming ids (class_value it.dump))
    (object_text naming ids shown (fact_of_object it.object)) (c.in_ok-write_class-in-Some-Some.ensures.bytes naming is)
    (c.write_object_dump-in-Some-Some.ensures.bytes naming shown is are)))
