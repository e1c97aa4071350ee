use Rattle.std.proofs.Common.{◌≡◌, sym, subst}
use Rattle.std.specs.Prelude.{IfOk}
use Rattle.std.specs.String.{string_bytes}
use Rattle.std.proofs.lemmas.Result.{err_from_is_err_and}
use Rattle.hprof_values.specs.declared.ids.IdSize.{IdSize}
use Rattle.hprof_values.specs.Lists.{identifiers_of}
use Rattle.hprof_heap.specs.HeapFacts.{size_of}
use Rattle.hprof_heap.specs.declared.object_dump.ObjectDump.{ObjectDump}
use Rattle.hprof_heap.specs.ObjectDump.{fact_of_object}
use Rattle.hprof_reports.specs.ObjectText.{object_text, instance_line, fields_text, elements_line, elements_text, values_line}
use Rattle.hprof_reports.specs.ObjectText.{contents_text}
use Rattle.hprof_lines.specs.Stopping.{WritesText}
use Rattle.hprof_lines.proofs.TextWriting.{text_stops, text_then}
use Rattle.hprof_reports.proofs.object.write_object_dump.Goals as goal

pub returns-in_err-write_line-in-Instance-clause-bytes : goal.returns-in_err-write_line-in-Instance-clause-bytes
returns-in_err-write_line-in-Instance-clause-bytes g c = λ naming shown is are.
    let ids = size_of c.args.heap.now in
    let it = c.in-Instance in
    let r = c.from_residual.result in
    let p = err_from_is_err_and r c.from_residual.ensures.1 in
    let made = c.instance_line.ensures naming is in
    subst (λ (row : ObjectDump). WritesText (g.W.Target.written c.args.target.now) (g.W.Target.written c.write_line.new.target) r
    (object_text naming ids shown (fact_of_object row))) (sym it.is)
    (text_stops r (g.W.Target.written c.args.target.now) (g.W.Target.written c.write_line.new.target) p.0
    (instance_line naming it.id it.class it.bytes.now) (fields_text naming ids shown) p.1
    (c.in_err-write_line-in-Instance.ensures.bytes (instance_line naming it.id it.class it.bytes.now) made))

pub returns-in_ok-write_line-in-Instance-clause-bytes : goal.returns-in_ok-write_line-in-Instance-clause-bytes
returns-in_ok-write_line-in-Instance-clause-bytes g c = λ naming shown is are.
    let ids = size_of c.args.heap.now in
    let it = c.in-Instance in
    let r = c.write_fields.result in
    let made = c.instance_line.ensures naming is in
    subst (λ (row : ObjectDump). WritesText (g.W.Target.written c.args.target.now) (g.W.Target.written c.write_fields.new.target) r
    (object_text naming ids shown (fact_of_object row))) (sym it.is)
    (text_then r (g.W.Target.written c.args.target.now) (g.W.Target.written c.write_line.new.target)
    (g.W.Target.written c.write_fields.new.target) (instance_line naming it.id it.class it.bytes.now) (fields_text naming ids shown)
    (c.in_ok-write_line-in-Instance.ensures.bytes (instance_line naming it.id it.class it.bytes.now) made)
    (c.write_fields.ensures.bytes naming shown is are))

pub returns-in_err-write_line-in-ObjArray-clause-bytes : goal.returns-in_err-write_line-in-ObjArray-clause-bytes
returns-in_err-write_line-in-ObjArray-clause-bytes g c = λ naming shown is are.
    let ids = size_of c.args.heap.now in
    let it = c.in-ObjArray in
    let r = c.from_residual-in_err-write_line-in-ObjArray.result in
    let p = err_from_is_err_and r c.from_residual-in_err-write_line-in-ObjArray.ensures.1 in
    let made = c.elements_line.ensures naming is in
    subst (λ (row : ObjectDump). WritesText (g.W.Target.written c.args.target.now)
    (g.W.Target.written c.write_line-in-ObjArray.new.target) r (object_text naming ids shown (fact_of_object row))) (sym it.is)
    (text_stops r (g.W.Target.written c.args.target.now) (g.W.Target.written c.write_line-in-ObjArray.new.target) p.0
    (elements_line naming it.id it.class (identifiers_of it.elements)) (elements_text (identifiers_of it.elements)) p.1
    (c.in_err-write_line-in-ObjArray.ensures.bytes (elements_line naming it.id it.class (identifiers_of it.elements)) made))

pub returns-in_ok-write_line-in-ObjArray-clause-bytes : goal.returns-in_ok-write_line-in-ObjArray-clause-bytes
returns-in_ok-write_line-in-ObjArray-clause-bytes g c = λ naming shown is are.
    let ids = size_of c.args.heap.now in
    let it = c.in-ObjArray in
    let r = c.write_entries.result in
    let made = c.elements_line.ensures naming is in
    subst (λ (row : ObjectDump). WritesText (g.W.Target.written c.args.target.now) (g.W.Target.written c.write_entries.new.target) r
    (object_text naming ids shown (fact_of_object row))) (sym it.is)
    (text_then r (g.W.Target.written c.args.target.now) (g.W.Target.written c.write_line-in-ObjArray.new.target)
    (g.W.Target.written c.write_entries.new.target) (elements_line naming it.id it.class (identifiers_of it.elements))
    (elements_text (identifiers_of it.elements))
    (c.in_ok-write_line-in-ObjArray.ensures.bytes (elements_line naming it.id it.class (identifiers_of it.elements)) made)
    (c.write_entries.ensures.bytes naming (identifiers_of it.elements) is c.iter.ensures.all))

pub returns-in_err-write_line-in-PrimArray-clause-bytes : goal.returns-in_err-write_line-in-PrimArray-clause-bytes
returns-in_err-write_line-in-PrimArray-clause-bytes g c = λ naming shown is are.
    let ids = size_of c.args.heap.now in
    let it = c.in-PrimArray in
    let r = c.from_residual-in_err-write_line-in-PrimArray.result in
    let p = err_from_is_err_and r c.from_residual-in_err-write_line-in-PrimArray.ensures.1 in
    let made = subst (λ (size : IdSize). IfOk c.values_line.result
    (λ line. string_bytes line ≡ values_line size it.id it.elem it.bytes.now))
    c.id_size.ensures.value c.values_line.ensures in
    subst (λ (row : ObjectDump). WritesText (g.W.Target.written c.args.target.now)
    (g.W.Target.written c.write_line-in-PrimArray.new.target) r (object_text naming ids shown (fact_of_object row))) (sym it.is)
    (text_stops r (g.W.Target.written c.args.target.now) (g.W.Target.written c.write_line-in-PrimArray.new.target) p.0
    (values_line ids it.id it.elem it.bytes.now) (contents_text it.bytes.now) p.1
    (c.in_err-write_line-in-PrimArray.ensures.bytes (values_line ids it.id it.elem it.bytes.now) made))

pub returns-in_ok-write_line-in-PrimArray-clause-bytes : goal.returns-in_ok-write_line-in-PrimArray-clause-bytes
returns-in_ok-write_line-in-PrimArray-clause-bytes g c = λ naming shown is are.
    let ids = size_of c.args.heap.now in
    let it = c.in-PrimArray in
    let r = c.write_contents.result in
    let made = subst (λ (size : IdSize). IfOk c.values_line.result
    (λ line. string_bytes line ≡ values_line size it.id it.elem it.bytes.now))
    c.id_size.ensures.value c.values_line.ensures in
    subst (λ (row : ObjectDump). WritesText (g.W.Target.written c.args.target.now) (g.W.Target.written c.write_contents.new.target) r
    (object_text naming ids shown (fact_of_object row))) (sym it.is)
    (text_then r (g.W.Target.written c.args.target.now) (g.W.Target.written c.write_line-in-PrimArray.new.target)
    (g.W.Target.written c.write_contents.new.target) (values_line ids it.id it.elem it.bytes.now) (contents_text it.bytes.now)
    (c.in_ok-write_line-in-PrimArray.ensures.bytes (values_line ids it.id it.elem it.bytes.now) made) c.write_contents.ensures.bytes)
