use Rattle.std.proofs.Common.{arith}
use Rattle.hprof_suspects.proofs.suspects.suspect_places.Goals as goal

pub push_if_suspect-requires-clause-fits : goal.push_if_suspect-requires-clause-fits
push_if_suspect-requires-clause-fits c =
    c.requires.sums.low c.loop-place.place (omega (arith, c.loop-place-test.true, c.len-place-end.ensures))
