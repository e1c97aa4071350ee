use Rattle.std.proofs.Common.{◌≡◌, List, [], ◌∷◌, ◌++◌, ℕ, refl, sym, subst, ap, append_assoc}
use Rattle.std.specs.Prelude.{codes, decimal}
use Rattle.std.specs.Io.KnownBytes.{Appends}
use Rattle.hprof_tool.specs.Telling.{TellsFront, line_end}
use Rattle.hprof_tool.proofs.program.salvaging.tell_fault.Goals as goal

-- the line, and its end
ended : (index why : List ℕ) → codes "part " ++ (index ++ (codes ": " ++ (why ++ line_end ∷ [])))
    ≡ (codes "part " ++ (index ++ (codes ": " ++ why))) ++ line_end ∷ []
ended index why = ap (λ (rest : List ℕ). codes "part " ++ rest) (sym (append_assoc index (codes ": " ++ why) (line_end ∷ [])))

pub returns-in-Ok-clause-told : goal.returns-in-Ok-clause-told
returns-in-Ok-clause-told g c =
    let why = c.as_str-why.result.now in
    let index = decimal c.args.fault.index in (
      codes "part " ++ (index ++ (codes ": " ++ why)),
      (why, refl),
      subst (λ (line : List ℕ). Appends (g.O.Write.contents c.args.output.now) (g.O.Write.contents c.write_part_line.new.writer) line)
          (ended index why) c.in-Ok.ensures,
    )

pub returns-in-Err-clause-front : goal.returns-in-Err-clause-front
returns-in-Err-clause-front g c =
    let why = c.as_str-why.result.now in
    let index = decimal c.args.fault.index in (
      codes "part " ++ (index ++ (codes ": " ++ why)),
      (why, refl),
      subst (λ (line : List ℕ). TellsFront line (g.O.Write.contents c.args.output.now) (g.O.Write.contents c.write_part_line.new.writer))
          (ended index why) c.in-Err.ensures,
    )
