use Rattle.hprof_suspects.specs.SuspectPlaces.{AreSuspectsTo}
use Rattle.hprof_suspects.proofs.suspects.suspect_places.Given as goal

-- the suspects among the places so far
abbrev pub invariant-loop-place : goal.invariant-loop-place
invariant-loop-place l = AreSuspectsTo l.retained l.parts.items l.sums.items l.place l.suspects.items
