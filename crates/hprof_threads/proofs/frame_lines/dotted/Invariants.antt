use Rattle.std.proofs.Common.{◌≡◌, take}
use Rattle.hprof_threads.specs.Frames.{dotted}
use Rattle.hprof_threads.proofs.frame_lines.dotted.Given as goal

abbrev pub invariant-loop-byte : goal.invariant-loop-byte
invariant-loop-byte l = l.bytes.items ≡ dotted (take l.byte-index l.text)
