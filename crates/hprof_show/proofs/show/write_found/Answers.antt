use Rattle.std.proofs.Common.{Option, Some, sym, subst}
use Rattle.std.specs.Option.{option_map}
use Rattle.std.proofs.lemmas.Result.{err_from_is_err_and}
use Rattle.hprof_heap.specs.declared.class_dump.ClassDump.{ClassDump}
use Rattle.hprof_heap.specs.declared.object_dump.ObjectDump.{ObjectDump}
use Rattle.hprof_heap.specs.ClassDump.{class_value}
use Rattle.hprof_heap.specs.ObjectDump.{fact_of_object}
use Rattle.hprof_lines.specs.Stopping.{WritesText}
use Rattle.hprof_lines.proofs.TextWriting.{text_stops, text_then}
use Rattle.hprof_show.specs.ClassLines.{class_text}
use Rattle.hprof_show.specs.ShowText.{found_text, object_text}
use Rattle.hprof_show.proofs.show.write_found.Goals as goal

pub returns-in_err-write_class-in-Some-Some-clause-bytes : goal.returns-in_err-write_class-in-Some-Some-clause-bytes
returns-in_err-write_class-in-Some-Some-clause-bytes g c = λ found shown is are.
    let it = c.in-Some-Some in
    let id = c.args.id in
    let r = c.from_residual.result in
    let p = err_from_is_err_and r c.from_residual.ensures.1 in
    let old = g.W.Target.written c.args.target.now in
    let new = g.W.Target.written c.write_class-in-Some-Some.new.target in
    subst (λ (class : Option ClassDump). WritesText old new r
    (found_text found id shown (option_map class_value class) (option_map fact_of_object c.args.object))) (sym it.is-0)
    (subst (λ (object : Option ObjectDump). WritesText old new r
    (found_text found id shown (Some (class_value it.dump)) (option_map fact_of_object object))) (sym it.is-1)
    (text_stops r old new p.0 (class_text found (class_value it.dump)) (object_text found id shown (fact_of_object it.object)) p.1
    (c.in_err-write_class-in-Some-Some.ensures.bytes found is)))

pub returns-in_ok-write_class-in-Some-Some-clause-bytes : goal.returns-in_ok-write_class-in-Some-Some-clause-bytes
returns-in_ok-write_class-in-Some-Some-clause-bytes g c = λ found shown is are.
    let it = c.in-Some-Some in
    let id = c.args.id in
    let r = c.write_object-in-Some-Some.result in
    let old = g.W.Target.written c.args.target.now in
    let mid = g.W.Target.written c.write_class-in-Some-Some.new.target in
    let new = g.W.Target.written c.write_object-in-Some-Some.new.target in
    subst (λ (class : Option ClassDump). WritesText old new r
    (found_text found id shown (option_map class_value class) (option_map fact_of_object c.args.object))) (sym it.is-0)
    (subst (λ (object : Option ObjectDump). WritesText old new r
    (found_text found id shown (Some (class_value it.dump)) (option_map fact_of_object object))) (sym it.is-1)
    (text_then r old mid new (class_text found (class_value it.dump)) (object_text found id shown (fact_of_object it.object))
    (c.in_ok-write_class-in-Some-Some.ensures.bytes found is) (c.write_object-in-Some-Some.ensures.bytes found shown is are)))
