use Rattle.std.proofs.Common.{◌++◌, codes}
use Rattle.std.specs.List.{flat_map}
use Rattle.std.proofs.lemmas.Result.{err_from_is_err_and}
use Rattle.hprof_lines.proofs.TextWriting.{text_stops, text_then}
use Rattle.hprof_questions.specs.Words.{all_words, usage_line}
use Rattle.hprof_ask.proofs.answers.write_help.Goals as goal

pub returns-in_err-write_str-clause-bytes : goal.returns-in_err-write_str-clause-bytes
returns-in_err-write_str-clause-bytes g c =
    let p = err_from_is_err_and c.from_residual.result c.from_residual.ensures.1 in
    text_stops c.from_residual.result (g.W.Target.written c.args.target.now) (g.W.Target.written c.write_str.new.target) p.0
    (codes "help\n") (flat_map usage_line all_words ++ codes "quit\nexit\n") p.1 c.in_err-write_str.ensures.bytes

pub returns-in_err-write_usages-clause-bytes : goal.returns-in_err-write_usages-clause-bytes
returns-in_err-write_usages-clause-bytes g c =
    let reports = flat_map usage_line all_words in
    let e = c.from_residual-in_err-write_usages in
    let p = err_from_is_err_and e.result e.ensures.1 in
    let mid = g.W.Target.written c.write_str.new.target in
    let new = g.W.Target.written c.write_usages.new.target in
    text_then e.result (g.W.Target.written c.args.target.now) mid new (codes "help\n") (reports ++ codes "quit\nexit\n")
    c.in_ok-write_str.ensures.bytes
    (text_stops e.result mid new p.0 reports (codes "quit\nexit\n") p.1 c.in_err-write_usages.ensures.bytes)

pub returns-clause-bytes : goal.returns-clause-bytes
returns-clause-bytes g c =
    let reports = flat_map usage_line all_words in
    let old = g.W.Target.written c.args.target.now in
    let mid = g.W.Target.written c.write_usages.new.target in
    let new = g.W.Target.written c.write_str-2.new.target in
    text_then c.write_str-2.result old (g.W.Target.written c.write_str.new.target) new (codes "help\n") (reports ++ codes "quit\nexit\n")
    c.in_ok-write_str.ensures.bytes
    (text_then c.write_str-2.result (g.W.Target.written c.write_str.new.target) mid new reports (codes "quit\nexit\n")
    c.in_ok-write_usages.ensures.bytes c.write_str-2.ensures.bytes)
