use Rattle.std.proofs.Common.{ℕ, List, take}
use Rattle.std.specs.Io.KnownBytes.{Appends}
use Rattle.hprof_tool.specs.Telling.{TellsFaults}
use Rattle.hprof_tool.proofs.program.salvaging.tell_faults.Given as goal

-- the faults so far are told
abbrev pub invariant-loop-fault : goal.invariant-loop-fault
invariant-loop-fault g l = record {
  told : (text : List ℕ) × TellsFaults (take l.fault-index l.faults) text
      × Appends (g.O.Write.contents l.fn.output) (g.O.Write.contents l.output) text;
}
