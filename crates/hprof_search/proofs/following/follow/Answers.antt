use Rattle.std.proofs.Common.{slice_index, refl}
use Rattle.hprof_search.specs.Finds.{finds_of}
use Rattle.hprof_search.proofs.Targets.{follow_more}
use Rattle.hprof_search.proofs.following.follow.Goals as goal

pub loop-number-preserved : goal.loop-number-preserved
loop-number-preserved c =
    let numbers = c.args.numbers.now in
    let index = c.loop-number.number-index in
    follow_more c.args.from numbers index (slice_index numbers index) (finds_of c.args.trail.now) (finds_of c.loop-number.trail)
    (finds_of c.arrive.new.self) c.loop-number-test.true refl c.loop-number.invariant c.in_ok-arrive.ensures
