use Rattle.std.proofs.Common.{[], ◌∷◌, ◌++◌, List, ℕ, subst}
use Rattle.std.specs.Prelude.{codes, decimal}
use Rattle.std.proofs.lemmas.Result.{err_from_is_err_and}
use Rattle.hprof_devices.specs.Device.{Writes}
use Rattle.hprof_devices.proofs.Writes.{Writes-stops, Writes-then}
use Rattle.hprof_tool.specs.Telling.{line_end}
use Rattle.hprof_tool.proofs.program.telling.write_part_line.Goals as goal

pub returns-in_err-write_bytes : goal.returns-in_err-write_bytes
returns-in_err-write_bytes g c =
    let is = err_from_is_err_and c.from_residual.result c.from_residual.ensures.1 in
    Writes-stops _ _ c.from_residual.result is.0 (codes "part ") (decimal c.args.index ++ (codes ": " ++
    (c.args.why.now ++ line_end ∷ []))) is.1 c.in_err-write_bytes.ensures

pub returns : goal.returns
returns g c =
    let mid = g.W.Write.contents c.write_bytes.new.writer in
    let new = g.W.Write.contents c.write_number.new.writer in
    let line : List ℕ → List ℕ = λ why. decimal c.args.index ++ (codes ": " ++ (why ++ line_end ∷ [])) in
    Writes-then (g.W.Write.contents c.args.writer.now) mid new (tt {0}) c.write_number.result (codes "part ") (line c.args.why.now)
    c.in_ok-write_bytes.ensures
    (subst (λ (why : List ℕ). Writes mid new c.write_number.result (line why)) c.as_bytes.ensures.value c.write_number.ensures)
