use Rattle.std.proofs.Common.{take}
use Rattle.hprof_objects.proofs.Apart.{ApartTo}
use Rattle.hprof_objects.proofs.dividing.apart_count.Given as goal

abbrev pub invariant-loop-index : goal.invariant-loop-index
invariant-loop-index l = ApartTo (take l.index l.cuts) l.last
