use Rattle.std.proofs.Common.{◌++◌}
use Rattle.std.proofs.lemmas.Result.{err_from_is_err_and}
use Rattle.hprof_heap.specs.ClassDump.{class_value}
use Rattle.hprof_heap.specs.HeapFacts.{size_of}
use Rattle.hprof_values.specs.Value.{constant_of, static_of, field_of}
use Rattle.std.specs.Prelude.{map}
use Rattle.std.proofs.Common.{ap}
use Rattle.hprof_reports.specs.ObjectText.{class_line, constants_text, statics_text, own_fields_text}
use Rattle.hprof_lines.proofs.TextWriting.{text_stops, text_then}
use Rattle.hprof_reports.proofs.object.write_class.Goals as goal

pub returns-in_err-write_line-clause-bytes : goal.returns-in_err-write_line-clause-bytes
returns-in_err-write_line-clause-bytes g c = λ naming is.
    let dump = class_value c.args.dump.now in
    let ids = size_of c.args.heap.now in
    let p = err_from_is_err_and c.from_residual.result c.from_residual.ensures.1 in
    text_stops c.from_residual.result (g.W.Target.written c.args.target.now) (g.W.Target.written c.write_line.new.target) p.0
    (class_line naming dump)
    (constants_text ids dump ++ (statics_text naming ids dump ++ own_fields_text naming dump)) p.1
    (c.in_err-write_line.ensures.bytes (class_line naming dump) (c.class_line.ensures naming is))

pub returns-in_err-write_entries-clause-bytes : goal.returns-in_err-write_entries-clause-bytes
returns-in_err-write_entries-clause-bytes g c = λ naming is.
    let dump = class_value c.args.dump.now in
    let ids = size_of c.args.heap.now in
    let old = g.W.Target.written c.args.target.now in
    let named = g.W.Target.written c.write_line.new.target in
    let new = g.W.Target.written c.write_entries.new.target in
    let r = c.from_residual-in_err-write_entries.result in
    let p = err_from_is_err_and r c.from_residual-in_err-write_entries.ensures.1 in
    text_then r old named new (class_line naming dump)
    (constants_text ids dump ++ (statics_text naming ids dump ++ own_fields_text naming dump))
    (c.in_ok-write_line.ensures.bytes (class_line naming dump) (c.class_line.ensures naming is))
    (text_stops r named new p.0 (constants_text ids dump) (statics_text naming ids dump ++ own_fields_text naming dump) p.1
    (c.in_err-write_entries.ensures.bytes naming (map constant_of dump.constants) is (ap (map constant_of) c.iter.ensures.all)))

pub returns-in_err-write_entries-2-clause-bytes : goal.returns-in_err-write_entries-2-clause-bytes
returns-in_err-write_entries-2-clause-bytes g c = λ naming is.
    let dump = class_value c.args.dump.now in
    let ids = size_of c.args.heap.now in
    let old = g.W.Target.written c.args.target.now in
    let named = g.W.Target.written c.write_line.new.target in
    let constant = g.W.Target.written c.write_entries.new.target in
    let new = g.W.Target.written c.write_entries-2.new.target in
    let r = c.from_residual-in_err-write_entries-2.result in
    let p = err_from_is_err_and r c.from_residual-in_err-write_entries-2.ensures.1 in
    text_then r old named new (class_line naming dump)
    (constants_text ids dump ++ (statics_text naming ids dump ++ own_fields_text naming dump))
    (c.in_ok-write_line.ensures.bytes (class_line naming dump) (c.class_line.ensures naming is))
    (text_then r named constant new (constants_text ids dump) (statics_text naming ids dump ++ own_fields_text naming dump)
    (c.in_ok-write_entries.ensures.bytes naming (map constant_of dump.constants) is (ap (map constant_of) c.iter.ensures.all))
    (text_stops r constant new p.0 (statics_text naming ids dump) (own_fields_text naming dump) p.1
    (c.in_err-write_entries-2.ensures.bytes naming (map static_of dump.statics) is (ap (map static_of) c.iter-2.ensures.all))))

pub returns-clause-bytes : goal.returns-clause-bytes
returns-clause-bytes g c = λ naming is.
    let dump = class_value c.args.dump.now in
    let ids = size_of c.args.heap.now in
    let old = g.W.Target.written c.args.target.now in
    let named = g.W.Target.written c.write_line.new.target in
    let constant = g.W.Target.written c.write_entries.new.target in
    let fixed = g.W.Target.written c.write_entries-2.new.target in
    let new = g.W.Target.written c.write_entries-3.new.target in
    let r = c.write_entries-3.result in
    text_then r old named new (class_line naming dump)
    (constants_text ids dump ++ (statics_text naming ids dump ++ own_fields_text naming dump))
    (c.in_ok-write_line.ensures.bytes (class_line naming dump) (c.class_line.ensures naming is))
    (text_then r named constant new (constants_text ids dump) (statics_text naming ids dump ++ own_fields_text naming dump)
    (c.in_ok-write_entries.ensures.bytes naming (map constant_of dump.constants) is (ap (map constant_of) c.iter.ensures.all))
    (text_then r constant fixed new (statics_text naming ids dump) (own_fields_text naming dump)
    (c.in_ok-write_entries-2.ensures.bytes naming (map static_of dump.statics) is (ap (map static_of) c.iter-2.ensures.all))
    (c.write_entries-3.ensures.bytes naming (map field_of dump.fields) is (ap (map field_of) c.iter-3.ensures.all))))
