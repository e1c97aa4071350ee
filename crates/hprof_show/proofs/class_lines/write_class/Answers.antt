use Rattle.std.proofs.Common.{◌++◌, codes, subst}
use Rattle.std.proofs.lemmas.Result.{err_from_is_err_and}
use Rattle.hprof_heap.specs.ClassDump.{class_value}
use Rattle.hprof_lines.specs.Stopping.{WritesText}
use Rattle.hprof_lines.proofs.TextWriting.{text_stops, text_then}
use Rattle.hprof_show.proofs.Regrouped.{five}
use Rattle.hprof_describe.specs.Nodes.{node_text}
use Rattle.hprof_show.specs.ClassLines.{class_text, constants_text, own_fields_text, referred_text, statics_text}
use Rattle.hprof_show.proofs.class_lines.write_class.Goals as goal

pub returns-in_err-write_line-clause-bytes : goal.returns-in_err-write_line-clause-bytes
unfolding class_text constants_text own_fields_text statics_text
returns-in_err-write_line-clause-bytes g c = λ found is.
    let dump = class_value c.args.dump.now in
    let head = node_text found dump.id ++ codes "\n" in
    let referred = referred_text found dump in
    let constants = constants_text found dump in
    let statics = statics_text found dump in
    let fields = own_fields_text found dump in
    let r = c.from_residual.result in
    let old = g.W.Target.written c.args.target.now in
    let after_head = g.W.Target.written c.write_line.new.target in
    let p = err_from_is_err_and r c.from_residual.ensures.1 in
    subst (WritesText old after_head r) (five head referred constants statics fields)
    (text_stops r old after_head p.0 head (referred ++ (constants ++ (statics ++ fields))) p.1
    (c.in_err-write_line.ensures.bytes head (c.head_line.ensures found is)))

pub returns-in_err-write_referred-clause-bytes : goal.returns-in_err-write_referred-clause-bytes
unfolding class_text constants_text own_fields_text statics_text
returns-in_err-write_referred-clause-bytes g c = λ found is.
    let dump = class_value c.args.dump.now in
    let head = node_text found dump.id ++ codes "\n" in
    let referred = referred_text found dump in
    let constants = constants_text found dump in
    let statics = statics_text found dump in
    let fields = own_fields_text found dump in
    let r = c.from_residual-in_err-write_referred.result in
    let old = g.W.Target.written c.args.target.now in
    let after_head = g.W.Target.written c.write_line.new.target in
    let after_referred = g.W.Target.written c.write_referred.new.target in
    let p = err_from_is_err_and r c.from_residual-in_err-write_referred.ensures.1 in
    subst (WritesText old after_referred r) (five head referred constants statics fields)
    (text_then r old after_head after_referred head (referred ++ (constants ++ (statics ++ fields)))
    (c.in_ok-write_line.ensures.bytes head (c.head_line.ensures found is))
    (text_stops r after_head after_referred p.0 referred (constants ++ (statics ++ fields)) p.1
    (c.in_err-write_referred.ensures.bytes found is)))

pub returns-in_err-write_entries-clause-bytes : goal.returns-in_err-write_entries-clause-bytes
unfolding class_text constants_text own_fields_text statics_text
returns-in_err-write_entries-clause-bytes g c = λ found is.
    let dump = class_value c.args.dump.now in
    let head = node_text found dump.id ++ codes "\n" in
    let referred = referred_text found dump in
    let constants = constants_text found dump in
    let statics = statics_text found dump in
    let fields = own_fields_text found dump in
    let r = c.from_residual-in_err-write_entries.result in
    let old = g.W.Target.written c.args.target.now in
    let after_head = g.W.Target.written c.write_line.new.target in
    let after_referred = g.W.Target.written c.write_referred.new.target in
    let after_constants = g.W.Target.written c.write_entries.new.target in
    let p = err_from_is_err_and r c.from_residual-in_err-write_entries.ensures.1 in
    subst (WritesText old after_constants r) (five head referred constants statics fields)
    (text_then r old after_head after_constants head (referred ++ (constants ++ (statics ++ fields)))
    (c.in_ok-write_line.ensures.bytes head (c.head_line.ensures found is))
    (text_then r after_head after_referred after_constants referred (constants ++ (statics ++ fields))
    (c.in_ok-write_referred.ensures.bytes found is)
    (text_stops r after_referred after_constants p.0 constants (statics ++ fields) p.1
    (c.in_err-write_entries.ensures.bytes found is))))

pub returns-in_err-write_entries-2-clause-bytes : goal.returns-in_err-write_entries-2-clause-bytes
unfolding class_text constants_text own_fields_text statics_text
returns-in_err-write_entries-2-clause-bytes g c = λ found is.
    let dump = class_value c.args.dump.now in
    let head = node_text found dump.id ++ codes "\n" in
    let referred = referred_text found dump in
    let constants = constants_text found dump in
    let statics = statics_text found dump in
    let fields = own_fields_text found dump in
    let r = c.from_residual-in_err-write_entries-2.result in
    let old = g.W.Target.written c.args.target.now in
    let after_head = g.W.Target.written c.write_line.new.target in
    let after_referred = g.W.Target.written c.write_referred.new.target in
    let after_constants = g.W.Target.written c.write_entries.new.target in
    let after_statics = g.W.Target.written c.write_entries-2.new.target in
    let p = err_from_is_err_and r c.from_residual-in_err-write_entries-2.ensures.1 in
    subst (WritesText old after_statics r) (five head referred constants statics fields)
    (text_then r old after_head after_statics head (referred ++ (constants ++ (statics ++ fields)))
    (c.in_ok-write_line.ensures.bytes head (c.head_line.ensures found is))
    (text_then r after_head after_referred after_statics referred (constants ++ (statics ++ fields))
    (c.in_ok-write_referred.ensures.bytes found is)
    (text_then r after_referred after_constants after_statics constants (statics ++ fields)
    (c.in_ok-write_entries.ensures.bytes found is)
    (text_stops r after_constants after_statics p.0 statics fields p.1
    (c.in_err-write_entries-2.ensures.bytes found is)))))

pub returns-clause-bytes : goal.returns-clause-bytes
unfolding class_text constants_text own_fields_text statics_text
returns-clause-bytes g c = λ found is.
    let dump = class_value c.args.dump.now in
    let head = node_text found dump.id ++ codes "\n" in
    let referred = referred_text found dump in
    let constants = constants_text found dump in
    let statics = statics_text found dump in
    let fields = own_fields_text found dump in
    let r = c.write_entries-3.result in
    let old = g.W.Target.written c.args.target.now in
    let after_head = g.W.Target.written c.write_line.new.target in
    let after_referred = g.W.Target.written c.write_referred.new.target in
    let after_constants = g.W.Target.written c.write_entries.new.target in
    let after_statics = g.W.Target.written c.write_entries-2.new.target in
    let after_fields = g.W.Target.written c.write_entries-3.new.target in
    subst (WritesText old after_fields r) (five head referred constants statics fields)
    (text_then r old after_head after_fields head (referred ++ (constants ++ (statics ++ fields)))
    (c.in_ok-write_line.ensures.bytes head (c.head_line.ensures found is))
    (text_then r after_head after_referred after_fields referred (constants ++ (statics ++ fields))
    (c.in_ok-write_referred.ensures.bytes found is)
    (text_then r after_referred after_constants after_fields constants (statics ++ fields)
    (c.in_ok-write_entries.ensures.bytes found is)
    (text_then r after_constants after_statics after_fields statics fields
    (c.in_ok-write_entries-2.ensures.bytes found is)
    (c.write_entries-3.ensures.bytes found is)))))
