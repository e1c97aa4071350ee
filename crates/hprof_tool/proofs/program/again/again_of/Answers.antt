use Rattle.hprof_tool.proofs.Again.{can_be_read_again}
use Rattle.hprof_tool.proofs.program.again.again_of.Goals as goal

pub returns : goal.returns
returns g c = (
  can_be_read_again g.F.Part.Source.left g.F.Handle.ReadAt.bytes c.args.parts.now c.in_ok-handles.handles.items
      (g.F.Scratch.Target.written c.in_ok-scratch.scratch) c.in_ok-handles.ensures c.in_ok-scratch.ensures.told,
  c.in_ok-scratch.ensures.nothing,
  c.in_ok-scratch.ensures.well,
)
