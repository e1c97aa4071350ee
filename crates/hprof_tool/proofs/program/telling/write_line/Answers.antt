use Rattle.std.proofs.Common.{[], ◌∷◌}
use Rattle.std.proofs.lemmas.Result.{err_from_is_err_and}
use Rattle.hprof_devices.proofs.Writes.{Writes-stops, Writes-then}
use Rattle.hprof_tool.specs.Telling.{line_end}
use Rattle.hprof_tool.proofs.program.telling.write_line.Goals as goal

pub returns-in_err-write_bytes : goal.returns-in_err-write_bytes
returns-in_err-write_bytes g c =
    let is = err_from_is_err_and c.from_residual.result c.from_residual.ensures.1 in
    Writes-stops _ _ c.from_residual.result is.0 (c.args.text.now) (line_end ∷ []) is.1 c.in_err-write_bytes.ensures

pub returns : goal.returns
returns g c = Writes-then _ _ _ (tt {0}) c.write_bytes-2.result (c.args.text.now) (line_end ∷ []) c.in_ok-write_bytes.ensures
    c.write_bytes-2.ensures
