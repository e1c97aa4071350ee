use Rattle.std.proofs.Common.{take}
use Rattle.hprof_tool.specs.Again.{AreHandles}
use Rattle.hprof_tool.proofs.program.again.handles_of.Given as goal

-- the handles so far read the parts so far
abbrev pub invariant-loop-part : goal.invariant-loop-part
invariant-loop-part g l = record {
  handles : AreHandles g.F.Part.Source.left g.F.Handle.ReadAt.bytes (take l.part-index l.parts) l.handles.items;
}
