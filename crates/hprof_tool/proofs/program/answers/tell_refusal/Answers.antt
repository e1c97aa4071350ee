use Rattle.std.proofs.Common.{List, ℕ, inl, inr, refl, subst}
use Rattle.std.specs.Prelude.{codes, string_bytes}
use Rattle.hprof_tool.specs.Telling.{TellsFront, told_line}
use Rattle.hprof_tool.proofs.program.answers.tell_refusal.Goals as goal

pub returns-in-Ok : goal.returns-in-Ok
returns-in-Ok g c = (
  string_bytes c.in-Ok.text,
  inl c.in-Ok.ensures,
  subst (λ (text : List ℕ). TellsFront (told_line text) (g.E.Write.contents c.args.errors.now) (g.E.Write.contents c.tell_line.new.writer))
      c.deref.ensures c.tell_line.ensures,
)

pub returns-in-Err : goal.returns-in-Err
returns-in-Err g c = (codes "out of memory", inr refl, c.tell_line-in-Err.ensures)
