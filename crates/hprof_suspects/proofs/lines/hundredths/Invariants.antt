use Rattle.std.proofs.Common.{◌≡◌, ◌+◌, ◌*◌, ◌<◌, ◌≤◌}
use Rattle.hprof_suspects.proofs.lines.hundredths.Given as goal

-- the part, added up so many times, is so many times all, and a rest
abbrev pub invariant-loop-turn : goal.invariant-loop-turn
invariant-loop-turn l = record {
  divided : l.count * l.all + l.rest ≡ l._turn * l.part;
  rest : l.rest < l.all;
  few : l.count ≤ l._turn;
}
