use Rattle.std.proofs.Common.{◌≡◌, ◌++◌, ℕ, codes, length, subst}
use Rattle.std.specs.Prelude.{IfOk}
use Rattle.std.specs.String.{string_bytes}
use Rattle.std.proofs.lemmas.Result.{err_from_is_err_and}
use Rattle.hprof_devices.proofs.Writes.{WritesFront-more, WritesFront-then}
use Rattle.hprof_naming.specs.Units.{units_of}
use Rattle.hprof_lines.proofs.TextWriting.{text_stopped, text_stops, text_then}
use Rattle.hprof_reports.specs.TextReport.{text_start}
use Rattle.hprof_lines.specs.Printed.{printed_units}
use Rattle.hprof_reports.proofs.text_report.write_units_line.Goals as goal

pub returns-in_err-write_line-clause-bytes : goal.returns-in_err-write_line-clause-bytes
returns-in_err-write_line-clause-bytes g c =
    let r = c.from_residual.result in
    let p = err_from_is_err_and r c.from_residual.ensures.1 in
    let units = units_of c.args.units.coding c.args.units.bytes.now in
    let start = subst (λ (n : ℕ). IfOk c.text_start.result (λ line. string_bytes line ≡ text_start n)) c.count.ensures c.text_start.ensures
    in
    text_stops r (g.W.Target.written c.args.target.now) (g.W.Target.written c.write_line.new.target) p.0 (text_start (length units))
    (printed_units units ++ codes "\n") p.1 (c.in_err-write_line.ensures.bytes (text_start (length units)) start)

pub returns-in_err-write_units-clause-bytes : goal.returns-in_err-write_units-clause-bytes
returns-in_err-write_units-clause-bytes g c =
    let r = c.from_residual-in_err-write_units.result in
    let p = err_from_is_err_and r c.from_residual-in_err-write_units.ensures.1 in
    let units = units_of c.args.units.coding c.args.units.bytes.now in
    let start = subst (λ (n : ℕ). IfOk c.text_start.result (λ line. string_bytes line ≡ text_start n)) c.count.ensures c.text_start.ensures
    in
    text_stopped r (g.W.Target.written c.args.target.now) (g.W.Target.written c.write_units.new.target) p.0
    (text_start (length units) ++ (printed_units units ++ codes "\n")) p.1
    (WritesFront-then (g.W.Target.written c.args.target.now) (g.W.Target.written c.write_line.new.target)
    (g.W.Target.written c.write_units.new.target) (text_start (length units)) (printed_units units ++ codes "\n")
    (c.in_ok-write_line.ensures.bytes (text_start (length units)) start)
    (WritesFront-more (g.W.Target.written c.write_line.new.target) (g.W.Target.written c.write_units.new.target) (printed_units units)
    (codes "\n")
    c.in_err-write_units.ensures.bytes))

pub returns-clause-bytes : goal.returns-clause-bytes
returns-clause-bytes g c =
    let units = units_of c.args.units.coding c.args.units.bytes.now in
    let start = subst (λ (n : ℕ). IfOk c.text_start.result (λ line. string_bytes line ≡ text_start n)) c.count.ensures c.text_start.ensures
    in
    let old = g.W.Target.written c.args.target.now in
    let new = g.W.Target.written c.write_str.new.target in
    text_then c.write_str.result old (g.W.Target.written c.write_line.new.target) new (text_start (length units))
    (printed_units units ++ codes "\n")
    (c.in_ok-write_line.ensures.bytes (text_start (length units)) start)
    (text_then c.write_str.result (g.W.Target.written c.write_line.new.target) (g.W.Target.written c.write_units.new.target) new
    (printed_units units) (codes "\n") c.in_ok-write_units.ensures.bytes c.write_str.ensures.bytes)
