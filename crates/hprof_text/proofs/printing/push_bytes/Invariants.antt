use Rattle.std.proofs.Common.{◌≡◌, take}
use Rattle.hprof_text.specs.Printed.{printed_bytes}
use Rattle.hprof_text.proofs.printing.push_bytes.Given as goal

abbrev pub invariant-loop-byte : goal.invariant-loop-byte
invariant-loop-byte l = l.text.items ≡ printed_bytes (take l.byte-index l.bytes)
