use Rattle.hprof_suspects.proofs.SuspectOrder.{all_low, all_within, are_suspects}
use Rattle.hprof_suspects.proofs.suspects.suspects_of.Goals as goal

pub returns-clause-places : goal.returns-clause-places
returns-clause-places c =
    all_low c.args.retained.now c.args.parts.now.items c.args.sums.now.items c.in_ok-suspects.suspects.items
    c.sort_suspects.new.suspects.items c.in_ok-suspects.ensures c.sort_suspects.ensures.same

pub returns-clause-within : goal.returns-clause-within
returns-clause-within c = λ ids facts agree tree.
    all_within ids facts c.args.retained.now tree agree c.args.parts.now.items c.args.sums.now.items c.in_ok-suspects.suspects.items
    c.sort_suspects.new.suspects.items c.in_ok-suspects.ensures c.sort_suspects.ensures.same

pub returns-clause-suspects : goal.returns-clause-suspects
returns-clause-suspects c = λ ids facts tree parts sums.
    are_suspects ids facts c.args.retained.now tree c.args.parts.now.items parts c.args.sums.now.items sums
    c.in_ok-suspects.suspects.items c.sort_suspects.new.suspects.items
    c.in_ok-suspects.ensures c.sort_suspects.ensures.same c.args.retained.now.numbered.some c.sort_suspects.ensures.sorted
