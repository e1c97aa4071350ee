use Rattle.std.proofs.Common.{◌++◌, ◌∷◌, [], List, ap, subst, ◌∙◌}
use Rattle.std.specs.Prelude.{IfSome}
use Rattle.hprof_tool.specs.Again.{IsReadyFor}
use Rattle.hprof_tool.proofs.program.comparing.open_dump.Goals as goal

pub returns-in-Ok-again_of-clause-opened : goal.returns-in-Ok-again_of-clause-opened
returns-in-Ok-again_of-clause-opened g c = (
  c.in-Ok.part,
  c.in_ok-push.ensures.items ∙ ap (λ (parts : List _). parts ++ c.in-Ok.part ∷ []) c.new-parts.ensures.items,
  c.in-Ok.ensures.opened,
)

pub returns-in-Ok-again_of-clause-ready : goal.returns-in-Ok-again_of-clause-ready
returns-in-Ok-again_of-clause-ready g c =
    subst (λ (parts : List _). IfSome c.in-Ok-again_of.again (IsReadyFor g.F.Part.Source.left g.F.Handle.ReadAt.bytes
    g.F.Scratch.Target.written g.F.Scratch.Target.health parts)) c.deref.ensures.value c.in-Ok-again_of.ensures
