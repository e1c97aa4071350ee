use Rattle.hprof_numbers.specs.Numbers.{items_in}
use Rattle.hprof_suspects.specs.PartPlaces.{AreOnlyTo}
use Rattle.hprof_suspects.proofs.only.only_large.Given as goal

-- those among the places so far
abbrev pub invariant-loop-place : goal.invariant-loop-place
invariant-loop-place l = AreOnlyTo l.retained l.labels (items_in l.heads) l.only l.place
