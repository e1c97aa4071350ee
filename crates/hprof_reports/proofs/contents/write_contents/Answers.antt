use Rattle.std.proofs.Common.{◌++◌, ◌∙◌, codes, sym, subst}
use Rattle.std.proofs.lemmas.Result.{err_from_is_err_and}
use Rattle.hex.specs.Hex.{encode_lower}
use Rattle.hprof_devices.proofs.Writes.{WritesFront, WritesFront-more, WritesFront-then}
use Rattle.hprof_lines.specs.Stopping.{WritesText}
use Rattle.hprof_lines.proofs.TextWriting.{text_stops, text_then}
use Rattle.hprof_reports.proofs.Digits.{contents_are}
use Rattle.hprof_reports.proofs.contents.write_contents.Goals as goal

pub returns-in_err-write_str-clause-bytes : goal.returns-in_err-write_str-clause-bytes
returns-in_err-write_str-clause-bytes g c =
    let bytes = c.args.bytes.now in
    let p = err_from_is_err_and c.from_residual.result c.from_residual.ensures.1 in
    let is = contents_are bytes (sym c.is_empty.ensures ∙ c.if-is_empty.false) in
    subst (WritesText (g.W.Target.written c.args.target.now) (g.W.Target.written c.write_str.new.target) c.from_residual.result) (sym is)
    (text_stops c.from_residual.result (g.W.Target.written c.args.target.now) (g.W.Target.written c.write_str.new.target) p.0
    (codes "bytes ") (encode_lower bytes ++ codes "\n") p.1 c.in_err-write_str.ensures.bytes)

pub returns-in-Err-clause-bytes : goal.returns-in-Err-clause-bytes
returns-in-Err-clause-bytes g c =
    let bytes = c.args.bytes.now in
    let is = contents_are bytes (sym c.is_empty.ensures ∙ c.if-is_empty.false) in
    subst (WritesFront (g.W.Target.written c.args.target.now) (g.W.Target.written c.write_digits.new.target)) (sym is)
    (WritesFront-then (g.W.Target.written c.args.target.now) (g.W.Target.written c.write_str.new.target)
    (g.W.Target.written c.write_digits.new.target) (codes "bytes ") (encode_lower bytes ++ codes "\n") c.in_ok-write_str.ensures.bytes
    (WritesFront-more (g.W.Target.written c.write_str.new.target) (g.W.Target.written c.write_digits.new.target) (encode_lower bytes)
    (codes "\n") c.in-Err.ensures.bytes))

pub returns-clause-bytes : goal.returns-clause-bytes
returns-clause-bytes g c =
    let bytes = c.args.bytes.now in
    let is = contents_are bytes (sym c.is_empty.ensures ∙ c.if-is_empty.false) in
    subst (WritesText (g.W.Target.written c.args.target.now) (g.W.Target.written c.write_str-2.new.target) c.write_str-2.result) (sym is)
    (text_then c.write_str-2.result (g.W.Target.written c.args.target.now) (g.W.Target.written c.write_str.new.target)
    (g.W.Target.written c.write_str-2.new.target) (codes "bytes ") (encode_lower bytes ++ codes "\n") c.in_ok-write_str.ensures.bytes
    (text_then c.write_str-2.result (g.W.Target.written c.write_str.new.target) (g.W.Target.written c.write_digits.new.target)
    (g.W.Target.written c.write_str-2.new.target) (encode_lower bytes) (codes "\n") c.in_default.ensures.bytes
    c.write_str-2.ensures.bytes))
