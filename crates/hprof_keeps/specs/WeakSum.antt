-- A sum as the program keeps it; no public contract speaks of it.
use Rattle.hprof_retained.specs.Retained.{Sum}
use Rattle.hprof_keeps.specs.declared.weakly.WeakSum.{WeakSum}

abbrev pub sum_of : WeakSum → Sum
sum_of sum = record { bytes = sum.bytes; objects = sum.objects }
