use Rattle.std.proofs.Common.{◌≡◌, ◌+◌, ℕ, List, Some, take, sym, subst}
use Rattle.hprof_tool.specs.Again.{AreHandles}
use Rattle.hprof_tool.proofs.Again.{handles_at}
use Rattle.hprof_tool.proofs.program.again.handles_of.Goals as goal

pub loop-part-preserved : goal.loop-part-preserved
loop-part-preserved g c =
    let left = g.F.Part.Source.left in
    let bytes = g.F.Handle.ReadAt.bytes in
    record {
      handles = subst (λ (handles : List _). AreHandles left bytes (take (c.loop-part.part-index + 1) c.args.parts.now) handles)
          (sym c.in_ok-push.ensures.items)
          (handles_at left bytes c.args.parts.now c.loop-part.part-index _ c.loop-part.handles.items c.in_ok-handle.handle
          c.loop-part-test.true
          (subst (λ (part : g.row.F-Part.Denot). (told : List ℕ) → left part ≡ Some told → bytes c.in_ok-handle.handle ≡ Some told)
          c.part-item.is c.in_ok-handle.ensures) c.loop-part.invariant.handles);
    }
