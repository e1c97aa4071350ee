use Rattle.std.proofs.Common.{◌≡◌, [], ◌∷◌, ◌++◌, List, ℕ, subst, ◌∙◌}
use Rattle.std.specs.Prelude.{decimal}
use Rattle.std.specs.Io.KnownBytes.{Appends}
use Rattle.std.proofs.lemmas.Result.{err_from_is_err_and}
use Rattle.hprof_devices.proofs.Writes.{WritesFront, Writes-stops, Writes-then}
use Rattle.hprof_tool.specs.Telling.{line_end}
use Rattle.hprof_tool.proofs.program.telling.write_number.Goals as goal

pub returns-in_err-write_bytes : goal.returns-in_err-write_bytes
returns-in_err-write_bytes g c =
    let old = g.W.Write.contents c.args.writer.now in
    let new = g.W.Write.contents c.write_bytes.new.writer in
    let digits : c.as_bytes.result.now ≡ decimal c.args.number = c.as_bytes.ensures.value ∙ c.format.ensures.text in
    let is = err_from_is_err_and c.from_residual.result c.from_residual.ensures.1 in
    Writes-stops old new c.from_residual.result is.0 (decimal c.args.number) (c.args.front.now ++ (c.args.text.now ++ line_end ∷ [])) is.1
    (subst (λ (bytes : List ℕ). WritesFront old new bytes) digits c.in_err-write_bytes.ensures)

pub returns : goal.returns
returns g c =
    let old = g.W.Write.contents c.args.writer.now in
    let mid = g.W.Write.contents c.write_bytes.new.writer in
    let new = g.W.Write.contents c.write_line_behind.new.writer in
    let digits : c.as_bytes.result.now ≡ decimal c.args.number = c.as_bytes.ensures.value ∙ c.format.ensures.text in
    Writes-then old mid new (tt {0}) c.write_line_behind.result (decimal c.args.number) (c.args.front.now ++
    (c.args.text.now ++ line_end ∷ []))
    (subst (λ (bytes : List ℕ). Appends old mid bytes) digits c.in_ok-write_bytes.ensures) c.write_line_behind.ensures
